-- Bytes that end with a zero are in the order of the bytes before it.
use Rattle.std.proofs.Common.{◌≡◌, ℕ, Bool, true, false, ◌&&◌, List, [], ◌∷◌, ◌++◌, Ordering, Less, Equal, Greater, refl, ap, ◌∙◌, arith}
use Rattle.std.specs.List.{list_all}
use Rattle.std.specs.Ordering.{nat_cmp, ordering_then}
use Rattle.std.proofs.lemmas.Bool.Decides.{nat_tests}
use Rattle.row_batch.specs.Order.{key_cmp}
use Rattle.row_fields.specs.Fields.{is_no_zero}

both : (a b : Bool) → (a && b) ≡ true → (a ≡ true) × (b ≡ true)
both true b e = (refl, e)
both false b e = absurd cc

above : (c : ℕ) → is_no_zero c ≡ true → nat_cmp 0 c ≡ Less
above c e = grind (arith, nat_tests)

below : (c : ℕ) → is_no_zero c ≡ true → nat_cmp c 0 ≡ Greater
below c e = grind (arith, nat_tests)

then_then : (a b c : Ordering) → ordering_then a (ordering_then b c) ≡ ordering_then (ordering_then a b) c
then_then Less b c = refl
then_then Equal b c = refl
then_then Greater b c = refl

pub ended_order : (x y r s : List ℕ) → list_all is_no_zero x ≡ true → list_all is_no_zero y ≡ true → key_cmp (x ++ 0 ∷ r) (y ++ 0 ∷ s) ≡ ordering_then (key_cmp x y) (key_cmp r s)
ended_order [] [] r s p q = refl
ended_order [] (c ∷ y) r s p q = rw (above c (both (is_no_zero c) (list_all is_no_zero y) q).0) refl
ended_order (c ∷ x) [] r s p q = rw (below c (both (is_no_zero c) (list_all is_no_zero x) p).0) refl
ended_order (c ∷ x) (d ∷ y) r s p q =
    ap (ordering_then (nat_cmp c d)) (ended_order x y r s (both (is_no_zero c) (list_all is_no_zero x) p).1 (both (is_no_zero d) (list_all is_no_zero y) q).1)
    ∙ then_then (nat_cmp c d) (key_cmp x y) (key_cmp r s)
