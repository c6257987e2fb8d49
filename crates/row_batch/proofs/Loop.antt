-- Reading operations one after the other, as a loop does.
use Rattle.std.proofs.Common.{◌≡◌, ℕ, suc, ◌-◌, ◌+◌, ◌≤◌, ◌<◌, List, [], ◌∷◌, ◌++◌, Option, Some, None, refl, sym, ap, ◌∙◌, append_assoc, arith}
use Rattle.std.proofs.lemmas.List.{append-nil}
use Rattle.row_batch.specs.declared.operation.Operation.{Operation}
use Rattle.row_batch.specs.declared.fault.BatchFault.{BatchFault}
use Rattle.row_batch.specs.declared.fault.BatchFault.TheVariants.{Malformed, Memory}
use Rattle.row_batch.specs.Reading.{◌>>=◌, Fails, operation_at, operations_at}

-- what was read before, and what is still read
abbrev pub with_front : List Operation → Option (List Operation × List ℕ) → Option (List Operation × List ℕ)
with_front front read = read >>= λ x. Some (front ++ x.0, x.1)

regroup : (front : List Operation) (n : Operation) (read : Option (List Operation × List ℕ)) → with_front front (read >>= λ x. Some (n ∷ x.0, x.1)) ≡ with_front (front ++ n ∷ []) read
regroup front n (Some x) = ap (λ (ns : List Operation). Some (ns, x.1)) (simp append_assoc)
regroup front n None = refl

pub goes_on : (front : List Operation) (count i : ℕ) (bytes : List ℕ) (n : Operation) (after : List ℕ) (total : Option (List Operation × List ℕ)) → i < count → operation_at bytes ≡ Some (n, after)
    → with_front front (operations_at (count - i) bytes) ≡ total → with_front (front ++ n ∷ []) (operations_at (count - (i + 1)) after) ≡ total
unfolding operations_at
goes_on front count i bytes n after total lt h so_far =
    let k : count - i ≡ suc (count - (i + 1)) = omega arith in
    let one : with_front front (operations_at (count - i) bytes) ≡ with_front (front ++ n ∷ []) (operations_at (count - (i + 1)) after) = rw (k, h) (regroup front n (operations_at (count - (i + 1)) after)) in
    sym one ∙ so_far

pub ends : (e : BatchFault) (front : List Operation) (count i : ℕ) (bytes : List ℕ) (total : Option (List Operation × List ℕ)) → i < count → Fails e (operation_at bytes)
    → with_front front (operations_at (count - i) bytes) ≡ total → Fails e total
unfolding operations_at
ends Memory front count i bytes total lt h so_far = tt
ends Malformed front count i bytes total lt h so_far =
    let k : count - i ≡ suc (count - (i + 1)) = omega arith in
    let one : with_front front (operations_at (count - i) bytes) ≡ None = rw (k, h) refl in
    sym so_far ∙ one

pub is_done : (front : List Operation) (count i : ℕ) (bytes : List ℕ) (total : Option (List Operation × List ℕ)) → count ≤ i → with_front front (operations_at (count - i) bytes) ≡ total → total ≡ Some (front, bytes)
unfolding operations_at
is_done front count i bytes total le so_far =
    let k : count - i ≡ 0 = omega arith in
    let one : with_front front (operations_at (count - i) bytes) ≡ Some (front, bytes) = rw k (ap (λ (ns : List Operation). Some (ns, bytes)) (append-nil front)) in
    sym so_far ∙ one
