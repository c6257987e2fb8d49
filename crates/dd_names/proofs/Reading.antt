-- A text without a fault is a name.
use Rattle.std.proofs.Common.{◌≡◌, ℕ, ◌+◌, ◌≤◌, ◌&&◌, Bool, true, false, cond, not, List, [], ◌∷◌, length, refl, arith, None}
use Rattle.std.specs.List.{list_all, prefix_len}
use Rattle.std.proofs.lemmas.Bool.Decides.{nat_tests}
use Rattle.dd_names.specs.Names.{is_name_byte, IsName, name_fault}

all_good : (bs : List ℕ) → length bs ≤ prefix_len (λ c. not (not (is_name_byte c))) bs → list_all is_name_byte bs ≡ true
all_good [] h = refl
all_good (b ∷ bs) h = elim (is_name_byte b) as (λ v. length bs + 1 ≤ cond (not (not v)) (1 + prefix_len (λ c. not (not (is_name_byte c))) bs) 0 → (v && list_all is_name_byte bs) ≡ true) [
  | true ↦ λ more. all_good bs (omega arith)
  | false ↦ λ more. absurd (omega arith)
] (omega arith)

pub name_from_none : (bs : List ℕ) (quoted : Bool) → name_fault bs quoted ≡ None → IsName bs
name_from_none bs quoted none = record {
  some = grind (arith, nat_tests);
  short = grind (arith, nat_tests);
  each = all_good bs (grind (arith, nat_tests));
}
