-- Lists in which no two items are alike.
use Rattle.std.specs.Prelude.{Bool, true, ◌&&◌, not, List, [], ◌∷◌}
use Rattle.std.specs.List.{list_any}

-- no item is like one behind it
abbrev pub are_distinct : {X : Type 0} → (X → X → Bool) → List X → Bool
are_distinct is_like [] = true
are_distinct is_like (x ∷ xs) = not (list_any (is_like x) xs) && are_distinct is_like xs
