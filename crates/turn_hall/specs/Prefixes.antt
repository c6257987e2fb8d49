-- Lists that begin other lists.
use Rattle.std.specs.Prelude.{◌≡◌, List, ◌++◌, length, cond, ltb}

abbrev pub IsPrefix : {E : Type 0} → List E → List E → Type 0
IsPrefix {E} xs ys = (more : List E) × (ys ≡ xs ++ more)

-- the second where it is the longer, else the first
abbrev pub longer : {E : Type 0} → List E → List E → List E
longer xs ys = cond (ltb (length xs) (length ys)) ys xs
