-- For which columns NULL is written.
use Rattle.std.specs.Prelude.{◌≡◌, ℕ, Bool, true, false, ◌&&◌, ◌||◌, List, [], ◌∷◌, map, refl}
use Rattle.std.specs.List.{list_any}
use Rattle.std.proofs.Common.{◌∙◌, ap}
use Rattle.dd_names.specs.Names.{same}
use Rattle.rules_create.specs.Tables.{is_null_written}
use Rattle.rules_alter.specs.Keys.{null_words}

and_true : (b : Bool) → b && true ≡ b
and_true b = elim b as (λ b. b && true ≡ b) [ true ↦ refl | false ↦ refl ]

pub null_written : (nulls : List (List ℕ)) (name : List ℕ) → is_null_written (map null_words nulls) name ≡ list_any (λ (other : List ℕ). same other name) nulls
null_written [] name = refl
null_written (null ∷ nulls) name = ap (λ b. b || is_null_written (map null_words nulls) name) (and_true (same null name)) ∙ ap (λ b. same null name || b) (null_written nulls name)
