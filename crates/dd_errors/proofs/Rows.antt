-- The rows of the program are the rows of the definitions.
use Rattle.std.proofs.Common.{◌≡◌, ℕ, true, false, List, [], ◌∷◌, refl, ◌∙◌, ap, Some}
use Rattle.std.specs.Prelude.{◌==◌, map, Option, option_map, if◌then◌else◌}
use Rattle.std.specs.List.{find}
use Rattle.dd_errors.specs.Table.{ErrorForm, error_form, Row, from_1007, from_1064, from_1113, from_1701}
use Rattle.dd_errors.specs.Errors.{form_among, form_from_1007, form_from_1064, form_from_1113, form_from_1701}
use Rattle.dd_errors.specs.declared.table.TheConstants.{FROM_1007, FROM_1064, FROM_1113, FROM_1701}

-- a row as the program has it
abbrev Kept : Type 0
Kept = ℕ × List ℕ × record { now : List ℕ }

abbrev as_row : Kept → Row
as_row kept = (kept.0, error_form kept.1 kept.2.now)

abbrev kept_form : List Kept → ℕ → Option ErrorForm
kept_form rows number = option_map (λ kept. error_form kept.1 kept.2.now) (find (λ kept. kept.0 == number) rows)

among : (rows : List Kept) (number : ℕ) → kept_form rows number ≡ form_among (map as_row rows) number
among [] number = refl
among (kept ∷ rows) number = elim (kept.0 == number) as (λ found. option_map (λ kept. error_form kept.1 kept.2.now) (if found then Some kept else find (λ kept. kept.0 == number) rows) ≡ option_map (λ row. row.1) (if found then Some (as_row kept) else find (λ row. row.0 == number) (map as_row rows))) [
  | true ↦ refl
  | false ↦ among rows number
]

rows_from_1007 : map as_row FROM_1007 ≡ from_1007
rows_from_1007 = refl

pub among_from_1007 : (number : ℕ) → kept_form FROM_1007 number ≡ form_from_1007 number
unfolding form_from_1007
among_from_1007 number = among FROM_1007 number ∙ ap (λ rows. form_among rows number) rows_from_1007

rows_from_1064 : map as_row FROM_1064 ≡ from_1064
rows_from_1064 = refl

pub among_from_1064 : (number : ℕ) → kept_form FROM_1064 number ≡ form_from_1064 number
unfolding form_from_1064
among_from_1064 number = among FROM_1064 number ∙ ap (λ rows. form_among rows number) rows_from_1064

rows_from_1113 : map as_row FROM_1113 ≡ from_1113
rows_from_1113 = refl

pub among_from_1113 : (number : ℕ) → kept_form FROM_1113 number ≡ form_from_1113 number
unfolding form_from_1113
among_from_1113 number = among FROM_1113 number ∙ ap (λ rows. form_among rows number) rows_from_1113

rows_from_1701 : map as_row FROM_1701 ≡ from_1701
rows_from_1701 = refl

pub among_from_1701 : (number : ℕ) → kept_form FROM_1701 number ≡ form_from_1701 number
unfolding form_from_1701
among_from_1701 number = among FROM_1701 number ∙ ap (λ rows. form_among rows number) rows_from_1701
