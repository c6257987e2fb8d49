-- A name that folds to another as it stands.
use Rattle.std.proofs.Common.{◌≡◌, ℕ, Bool, true, false, ◌&&◌, List, [], ◌∷◌, refl, ◌∙◌, ap, arith}
use Rattle.std.specs.Prelude.{nat_eq}
use Rattle.std.specs.List.{list_all}
use Rattle.std.specs.Str.{bytes_eq}
use Rattle.std.specs.Char.{to_ascii_lowercase}
use Rattle.std.proofs.lemmas.Bool.Decides.{nat_tests}
use Rattle.dd_names.specs.Names.{fold, same}
use Rattle.dd_index.specs.Keys.{is_no_capital}

byte_folds : (x y : ℕ) → (nat_eq (to_ascii_lowercase x) (to_ascii_lowercase y) && is_no_capital y) ≡ nat_eq (to_ascii_lowercase x) y
byte_folds x y = grind (arith, nat_tests)

regrouped : (p e u us : Bool) → ((p && e) && (u && us)) ≡ ((p && u) && (e && us))
regrouped true true true us = refl
regrouped true true false us = refl
regrouped true false true us = refl
regrouped true false false us = refl
regrouped false e u us = refl

pub folds_is : (a b : List ℕ) → (same a b && list_all is_no_capital b) ≡ bytes_eq (fold a) b
folds_is [] [] = refl
folds_is [] (y ∷ ys) = refl
folds_is (x ∷ xs) [] = refl
folds_is (x ∷ xs) (y ∷ ys) =
    regrouped (nat_eq (to_ascii_lowercase x) (to_ascii_lowercase y)) (same xs ys) (is_no_capital y) (list_all is_no_capital ys)
    ∙ ap (λ b. b && (same xs ys && list_all is_no_capital ys)) (byte_folds x y)
    ∙ ap (λ b. nat_eq (to_ascii_lowercase x) y && b) (folds_is xs ys)
