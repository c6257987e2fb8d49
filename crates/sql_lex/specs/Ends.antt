-- How far it is to the end of a comment, a quoted name or a string.
use Rattle.std.specs.Prelude.{ℕ, zero, suc, ◌+◌, ◌-◌, Bool, true, false, List, [], ◌∷◌, Option, Some, None, ◌==◌, ◌&&◌, if◌then◌else◌}
use Rattle.sql_lex.specs.declared.reach.Until.{Until}
use Rattle.sql_lex.specs.declared.reach.Until.TheVariants.{CommentEnd, BackQuote, Quote}
use Rattle.sql_lex.specs.declared.reach.Step.{Step}
use Rattle.sql_lex.specs.declared.reach.Step.TheVariants.{Ends, Goes}
use Rattle.sql_lex.specs.declared.string_part.Part.{Part}
use Rattle.sql_lex.specs.declared.string_part.Part.TheVariants.{Closes, One, Two}
use Rattle.sql_lex.specs.Strings.{part}

abbrev pub starts_with_2 : ℕ → ℕ → List ℕ → Bool
starts_with_2 x y (a ∷ b ∷ bs) = a == x && b == y
starts_with_2 x y _ = false

abbrev pub starts_with_3 : ℕ → ℕ → ℕ → List ℕ → Bool
starts_with_3 x y z (a ∷ b ∷ c ∷ bs) = a == x && b == y && c == z
starts_with_3 x y z _ = false

abbrev pub part_step : Part → Step
part_step Closes = Ends 1
part_step (One c n) = Goes n
part_step (Two c) = Goes 2

-- whether it ends here, with so many bytes, or goes on by so many
abbrev pub step : Until → List ℕ → Step
step CommentEnd bs = if starts_with_2 42 47 bs then Ends 2 else Goes 1
step BackQuote [] = Goes 1
step BackQuote (b ∷ bs) = if b == 96 then Ends 1 else Goes 1
step (Quote q) bs = part_step (part q bs)

abbrev pub longer : ℕ → Option ℕ → Option ℕ
longer n None = None
longer n (Some m) = Some (n + m)

abbrev pub after_step : Step → (ℕ → Option ℕ) → Option ℕ
after_step (Ends n) more = Some n
after_step (Goes n) more = longer 1 (more (n - 1))

-- how many bytes there are up to the end, with it, behind k that are passed over; None where there is no end
abbrev pub reach : Until → List ℕ → ℕ → Option ℕ
reach until [] k = None
reach until (b ∷ bs) (suc k) = longer 1 (reach until bs k)
reach until (b ∷ bs) zero = after_step (step until (b ∷ bs)) (reach until bs)
