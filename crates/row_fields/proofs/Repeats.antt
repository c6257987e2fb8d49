-- The fields of items, one after the other, read again.
use Rattle.std.proofs.Common.{◌≡◌, ℕ, zero, suc, List, [], ◌∷◌, ◌++◌, map, length, Some, sym, ap, refl, ◌∙◌, append_assoc}
use Rattle.std.specs.List.{flat_map, AllByRecursion}
use Rattle.std.proofs.lemmas.List.{append-nil, map-append}
use Rattle.row_fields.specs.declared.fields.Field.{Field}
use Rattle.row_fields.specs.declared.fields.Kind.{Kind}
use Rattle.row_fields.specs.Fields.{kind_of, fields_bytes, Fits}
use Rattle.row_fields.specs.Reading.{fields_at}
use Rattle.row_fields.specs.Repeated.{repeated}
use Rattle.row_fields.proofs.Again.{fields_again}

one_first : (n : ℕ) (kinds : List Kind) → repeated (suc n) kinds ≡ kinds ++ repeated n kinds
one_first zero kinds = sym (append-nil kinds)
one_first (suc n) kinds = ap (λ (ks : List Kind). ks ++ kinds) (one_first n kinds) ∙ append_assoc kinds (repeated n kinds) kinds

-- items whose fields are of the same kinds have these kinds again and again
pub kinds_repeat : {X : Type 0} (fields : X → List Field) (kinds : List Kind) → ((x : X) → map kind_of (fields x) ≡ kinds) → (xs : List X) → map kind_of (flat_map fields xs) ≡ repeated (length xs) kinds
kinds_repeat fields kinds each [] = refl
kinds_repeat fields kinds each (x ∷ xs) =
    map-append kind_of (fields x) (flat_map fields xs) ∙ (λ i. each x i ++ kinds_repeat fields kinds each xs i) ∙ sym (one_first (length xs) kinds)

pub repeats_again : {X : Type 0} (fields : X → List Field) (kinds : List Kind) → ((x : X) → map kind_of (fields x) ≡ kinds) → (xs : List X) (rest : List ℕ) → AllByRecursion Fits (flat_map fields xs)
    → fields_at (repeated (length xs) kinds) (fields_bytes (flat_map fields xs) ++ rest) ≡ Some (flat_map fields xs, rest)
repeats_again fields kinds each xs rest fits =
    ap (λ (ks : List Kind). fields_at ks (fields_bytes (flat_map fields xs) ++ rest)) (sym (kinds_repeat fields kinds each xs)) ∙ fields_again (flat_map fields xs) rest fits
