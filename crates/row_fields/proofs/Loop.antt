-- Reading fields one after the other, as a loop does.
use Rattle.std.proofs.Common.{◌≡◌, ℕ, suc, ◌+◌, ◌≤◌, ◌<◌, List, [], ◌∷◌, ◌++◌, length, drop, get_or, Option, Some, None, refl, sym, ap, ◌∙◌, append_assoc, arith}
use Rattle.std.proofs.Math.Seq.{drop-cons}
use Rattle.std.proofs.lemmas.List.{append-nil, drop_all}
use Rattle.row_fields.specs.declared.fields.Field.{Field}
use Rattle.row_fields.specs.declared.fields.Kind.{Kind}
use Rattle.row_fields.specs.declared.faults.FieldFault.{FieldFault}
use Rattle.row_fields.specs.declared.faults.FieldFault.TheVariants.{Malformed, Memory}
use Rattle.row_batch.specs.Reading.{◌>>=◌}
use Rattle.row_fields.specs.Reading.{Fails, field_at, fields_at}

-- what was read before, and what is still read
abbrev pub with_front : List Field → Option (List Field × List ℕ) → Option (List Field × List ℕ)
with_front front read = read >>= λ x. Some (front ++ x.0, x.1)

regroup : (front : List Field) (n : Field) (read : Option (List Field × List ℕ)) → with_front front (read >>= λ x. Some (n ∷ x.0, x.1)) ≡ with_front (front ++ n ∷ []) read
regroup front n (Some x) = ap (λ (ns : List Field). Some (ns, x.1)) (simp append_assoc)
regroup front n None = refl

pub goes_on : (front : List Field) (kinds : List Kind) (i : ℕ) (d : Kind) (bytes : List ℕ) (n : Field) (after : List ℕ) (total : Option (List Field × List ℕ)) → i < length kinds → field_at (get_or kinds i d) bytes ≡ Some (n, after)
    → with_front front (fields_at (drop i kinds) bytes) ≡ total → with_front (front ++ n ∷ []) (fields_at (drop (i + 1) kinds) after) ≡ total
unfolding fields_at
goes_on front kinds i d bytes n after total lt h so_far =
    let k : drop i kinds ≡ get_or kinds i d ∷ drop (suc i) kinds = drop-cons kinds i d lt in
    let one : with_front front (fields_at (drop i kinds) bytes) ≡ with_front (front ++ n ∷ []) (fields_at (drop (suc i) kinds) after) = rw (k, h) (regroup front n (fields_at (drop (suc i) kinds) after)) in
    let s : i + 1 ≡ suc i = omega arith in
    rw s (sym one ∙ so_far)

pub ends : (e : FieldFault) (front : List Field) (kinds : List Kind) (i : ℕ) (d : Kind) (bytes : List ℕ) (total : Option (List Field × List ℕ)) → i < length kinds → Fails e (field_at (get_or kinds i d) bytes)
    → with_front front (fields_at (drop i kinds) bytes) ≡ total → Fails e total
unfolding fields_at
ends Memory front kinds i d bytes total lt h so_far = tt
ends Malformed front kinds i d bytes total lt h so_far =
    let k : drop i kinds ≡ get_or kinds i d ∷ drop (suc i) kinds = drop-cons kinds i d lt in
    let one : with_front front (fields_at (drop i kinds) bytes) ≡ None = rw (k, h) refl in
    sym so_far ∙ one

pub is_done : (front : List Field) (kinds : List Kind) (i : ℕ) (bytes : List ℕ) (total : Option (List Field × List ℕ)) → length kinds ≤ i → with_front front (fields_at (drop i kinds) bytes) ≡ total → total ≡ Some (front, bytes)
unfolding fields_at
is_done front kinds i bytes total le so_far =
    let k : drop i kinds ≡ [] = drop_all i kinds le in
    let one : with_front front (fields_at (drop i kinds) bytes) ≡ Some (front, bytes) = rw k (ap (λ (ns : List Field). Some (ns, bytes)) (append-nil front)) in
    sym so_far ∙ one
