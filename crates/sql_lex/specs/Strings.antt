-- What a string means (MySQL 8.0 Reference Manual, 9.1.1).
use Rattle.std.specs.Prelude.{ℕ, zero, suc, ◌-◌, Bool, List, [], ◌∷◌, Option, Some, None, ◌==◌, ◌||◌, ◌&&◌, if◌then◌else◌}
use Rattle.sql_lex.specs.declared.string_part.Part.{Part}
use Rattle.sql_lex.specs.declared.string_part.Part.TheVariants.{Closes, One, Two}

-- the byte that a backslash and this byte are: 0 b n r t Z, and any other byte itself
abbrev pub escaped : ℕ → ℕ
escaped c = if c == 48 then 0 else if c == 98 then 8 else if c == 110 then 10 else if c == 114 then 13 else if c == 116 then 9 else if c == 90 then 26 else c

-- % and _, which keep their backslash
abbrev pub keeps_backslash : ℕ → Bool
keeps_backslash c = c == 37 || c == 95

abbrev pub behind_backslash : ℕ → Part
behind_backslash c = if keeps_backslash c then Two c else One (escaped c) 2

-- The part at the front, behind an opening quote q: the closing quote; some bytes that mean one byte; or a backslash
-- and a byte that mean both. The quote doubled is the quote.
abbrev pub part : ℕ → List ℕ → Part
part q [] = One 0 1
part q (b ∷ []) = if b == q then Closes else One b 1
part q (b ∷ c ∷ bs) = if b == 92 then behind_backslash c else if b == q then (if c == q then One q 2 else Closes) else One b 1

abbrev pub after_part : Part → (ℕ → List ℕ) → List ℕ
after_part Closes more = []
after_part (One c n) more = c ∷ more (n - 1)
after_part (Two c) more = 92 ∷ c ∷ more 1

-- what the bytes up to the closing quote mean, behind k that are passed over
abbrev pub meant : ℕ → List ℕ → ℕ → List ℕ
meant q [] k = []
meant q (b ∷ bs) (suc k) = meant q bs k
meant q (b ∷ bs) zero = after_part (part q (b ∷ bs)) (meant q bs)

-- the meaning of a string with its quotes
abbrev pub string_meaning : List ℕ → List ℕ
string_meaning [] = []
string_meaning (q ∷ bs) = meant q bs 0

-- what follows a byte that stands at the front
abbrev pub strip_of : ℕ → List ℕ → Option (List ℕ)
strip_of c [] = None
strip_of c (d ∷ s) = if c == d then Some s else None

-- what follows a backslash and a byte that stand at the front
abbrev pub strip_two_of : ℕ → List ℕ → Option (List ℕ)
strip_two_of c (a ∷ b ∷ s) = if a == 92 && c == b then Some s else None
strip_two_of c _ = None
