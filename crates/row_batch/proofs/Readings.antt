-- The two laws: what is read is a batch of these bytes, and a batch's bytes are read as the batch.
use Rattle.std.proofs.Common.{◌≡◌, ℕ, zero, suc, ◌^◌, Bool, true, false, cond, eqb, ◌&&◌, List, [], ◌∷◌, ◌++◌, length, Some, None, refl, sym, ap, subst, ◌∙◌, append_assoc, arith}
use Rattle.std.specs.List.{flat_map, AllByRecursion}
use Rattle.std.specs.Int.{w16, w32, to_be_bytes}
use Rattle.std.proofs.lemmas.Bool.{eqb-true}
use Rattle.std.proofs.lemmas.List.{append-nil, nil_from_length}
use Rattle.std.proofs.lemmas.List.Concat.{flat_map-cons}
use Rattle.row_batch.specs.declared.operation.Operation.{Operation}
use Rattle.row_batch.specs.declared.operation.Operation.TheVariants.{Delete, DeletePrefix, Put}
use Rattle.row_batch.specs.declared.fault.BatchFault.{BatchFault}
use Rattle.row_batch.specs.declared.fault.BatchFault.TheVariants.{Malformed}
use Rattle.row_batch.specs.Order.{in_order}
use Rattle.row_batch.specs.Batches.{key_bytes, value_bytes, operation_bytes, batch_bytes, Fits, IsBatch}
use Rattle.row_batch.specs.Reading.{◌>>=◌, Fails, number_at, string_at, put_at, delete_at, delete_prefix_at, operation_at, operations_at, read_batch}
use Rattle.row_batch.proofs.Fields.{IsBytes, bind_some, some_is, Takes, Takes-then, wide16, wide32, number_takes, number_again, string_takes, string_again}

-- a byte in front of what was taken
abbrev after_tag : (tag : ℕ) (bytes text rest : List ℕ) → Takes bytes text rest → Takes (tag ∷ bytes) (tag ∷ text) rest
after_tag tag bytes text rest t = record { parts = ap (λ (w : List ℕ). tag ∷ w) t.parts; rest_fits = t.rest_fits }

-- an operation was taken, and its lengths have room
abbrev pub TakesOne : List ℕ → Operation × List ℕ → Type 0
TakesOne bytes x = Takes bytes (operation_bytes x.0) x.1 × Fits x.0

behind : (b : ℕ) (bytes : List ℕ) → IsBytes (b ∷ bytes) → IsBytes bytes
behind b bytes h i = h (suc i)

put_takes : (bytes : List ℕ) (x : Operation × List ℕ) → IsBytes bytes → put_at bytes ≡ Some x → TakesOne (1 ∷ bytes) x
unfolding put_at operation_bytes
put_takes bytes x fits e =
    let a = bind_some (string_at w16 bytes) (λ key. string_at w32 key.1 >>= λ value. Some (Put key.0 value.0, value.1)) x e in
    let b = bind_some (string_at w32 a.0.1) (λ value. Some (Put a.0.0 value.0, value.1)) x a.2 in
    let t0 = string_takes w16 (2 ^ 16) wide16 bytes a.0.0 a.0.1 fits a.1 in
    let t1 = string_takes w32 (2 ^ 32) wide32 a.0.1 b.0.0 b.0.1 t0.0.rest_fits b.1 in
    let both = Takes-then bytes (key_bytes a.0.0) a.0.1 (value_bytes b.0.0) b.0.1 t0.0 t1.0 in
    let made : Operation × List ℕ = (Put a.0.0 b.0.0, b.0.1) in
    subst (TakesOne (1 ∷ bytes)) (some_is made x b.2) (after_tag 1 bytes (key_bytes a.0.0 ++ value_bytes b.0.0) b.0.1 both, (t0.1, t1.1))

delete_takes : (bytes : List ℕ) (x : Operation × List ℕ) → IsBytes bytes → delete_at bytes ≡ Some x → TakesOne (2 ∷ bytes) x
unfolding delete_at operation_bytes
delete_takes bytes x fits e =
    let a = bind_some (string_at w16 bytes) (λ key. Some (Delete key.0, key.1)) x e in
    let t = string_takes w16 (2 ^ 16) wide16 bytes a.0.0 a.0.1 fits a.1 in
    let made : Operation × List ℕ = (Delete a.0.0, a.0.1) in
    subst (TakesOne (2 ∷ bytes)) (some_is made x a.2) (after_tag 2 bytes (key_bytes a.0.0) a.0.1 t.0, t.1)

delete_prefix_takes : (bytes : List ℕ) (x : Operation × List ℕ) → IsBytes bytes → delete_prefix_at bytes ≡ Some x → TakesOne (3 ∷ bytes) x
unfolding delete_prefix_at operation_bytes
delete_prefix_takes bytes x fits e =
    let a = bind_some (string_at w16 bytes) (λ prefix. Some (DeletePrefix prefix.0, prefix.1)) x e in
    let t = string_takes w16 (2 ^ 16) wide16 bytes a.0.0 a.0.1 fits a.1 in
    let made : Operation × List ℕ = (DeletePrefix a.0.0, a.0.1) in
    subst (TakesOne (3 ∷ bytes)) (some_is made x a.2) (after_tag 3 bytes (key_bytes a.0.0) a.0.1 t.0, t.1)

operation_takes : (bytes : List ℕ) (x : Operation × List ℕ) → IsBytes bytes → operation_at bytes ≡ Some x → TakesOne bytes x
unfolding operation_at
operation_takes [] x fits e = absurd cc
operation_takes (zero ∷ rest) x fits e = absurd cc
operation_takes (suc zero ∷ rest) x fits e = put_takes rest x (behind 1 rest fits) e
operation_takes (suc (suc zero) ∷ rest) x fits e = delete_takes rest x (behind 2 rest fits) e
operation_takes (suc (suc (suc zero)) ∷ rest) x fits e = delete_prefix_takes rest x (behind 3 rest fits) e
operation_takes (suc (suc (suc (suc n))) ∷ rest) x fits e = absurd cc

operation_again : (operation : Operation) (rest : List ℕ) → Fits operation → operation_at (operation_bytes operation ++ rest) ≡ Some (operation, rest)
unfolding operation_at put_at delete_at delete_prefix_at operation_bytes
operation_again (Put key value) rest fits =
    let regrouped : (key_bytes key ++ value_bytes value) ++ rest ≡ key_bytes key ++ (value_bytes value ++ rest) = append_assoc (key_bytes key) (value_bytes value) rest in
    ap put_at regrouped ∙ rw (string_again w16 (2 ^ 16) wide16 key (value_bytes value ++ rest) fits.0, string_again w32 (2 ^ 32) wide32 value rest fits.1) refl
operation_again (Delete key) rest fits = rw (string_again w16 (2 ^ 16) wide16 key rest fits) refl
operation_again (DeletePrefix prefix) rest fits = rw (string_again w16 (2 ^ 16) wide16 prefix rest fits) refl

operations_take : (n : ℕ) (bytes : List ℕ) (x : List Operation × List ℕ) → IsBytes bytes → operations_at n bytes ≡ Some x → Takes bytes (flat_map operation_bytes x.0) x.1 × (length x.0 ≡ n) × AllByRecursion Fits x.0
unfolding operations_at
operations_take zero bytes x fits e =
    subst (λ (y : List Operation × List ℕ). Takes bytes (flat_map operation_bytes y.0) y.1 × (length y.0 ≡ 0) × AllByRecursion Fits y.0) (some_is ([], bytes) x e) (record { parts = refl; rest_fits = fits }, refl, tt)
operations_take (suc n) bytes x fits e =
    let a = bind_some (operation_at bytes) (λ first. operations_at n first.1 >>= λ others. Some (first.0 ∷ others.0, others.1)) x e in
    let b = bind_some (operations_at n a.0.1) (λ others. Some (a.0.0 ∷ others.0, others.1)) x a.2 in
    let first = operation_takes bytes a.0 fits a.1 in
    let second = operations_take n a.0.1 b.0 first.0.rest_fits b.1 in
    let both = Takes-then bytes (operation_bytes a.0.0) a.0.1 (flat_map operation_bytes b.0.0) b.0.1 first.0 second.0 in
    let made : List Operation × List ℕ = (a.0.0 ∷ b.0.0, b.0.1) in
    subst (λ (y : List Operation × List ℕ). Takes bytes (flat_map operation_bytes y.0) y.1 × (length y.0 ≡ suc n) × AllByRecursion Fits y.0) (some_is made x b.2) (rw flat_map-cons both, ap suc second.1, (first.1, second.2))

operations_again : (xs : List Operation) (rest : List ℕ) → AllByRecursion Fits xs → operations_at (length xs) (flat_map operation_bytes xs ++ rest) ≡ Some (xs, rest)
unfolding operations_at
operations_again [] rest fits = refl
operations_again (x ∷ xs) rest fits =
    let regrouped : flat_map operation_bytes (x ∷ xs) ++ rest ≡ operation_bytes x ++ (flat_map operation_bytes xs ++ rest) = ap (λ (t : List ℕ). t ++ rest) (flat_map-cons operation_bytes x xs) ∙ append_assoc (operation_bytes x) (flat_map operation_bytes xs) rest in
    ap (operations_at (suc (length xs))) regrouped ∙ rw (operation_again x (flat_map operation_bytes xs ++ rest) fits.0, operations_again xs rest fits.1) refl

both_true : (a b : Bool) → (a && b) ≡ true → (a ≡ true) × (b ≡ true)
both_true true b e = (refl, e)
both_true false b e = absurd cc

guard_ended : {A : Type 0} (b : Bool) (x y : A) → cond b (Some x) None ≡ Some y → (b ≡ true) × (x ≡ y)
guard_ended true x y e = (refl, cc)
guard_ended false x y e = absurd cc

-- what is read is a batch of these bytes
pub batch_takes : (bytes : List ℕ) (xs : List Operation) → IsBytes bytes → read_batch bytes ≡ Some xs → IsBatch xs × (bytes ≡ batch_bytes xs)
unfolding read_batch batch_bytes
batch_takes bytes xs fits e =
    let a = bind_some (number_at w32 bytes) (λ n. operations_at n.0 n.1 >>= λ x. cond (eqb (length x.1) 0 && in_order x.0) (Some x.0) None) xs e in
    let b = bind_some (operations_at a.0.0 a.0.1) (λ x. cond (eqb (length x.1) 0 && in_order x.0) (Some x.0) None) xs a.2 in
    let g = guard_ended (eqb (length b.0.1) 0 && in_order b.0.0) b.0.0 xs b.2 in
    let h = both_true (eqb (length b.0.1) 0) (in_order b.0.0) g.0 in
    let first = number_takes w32 (2 ^ 32) wide32 bytes a.0.0 a.0.1 fits a.1 in
    let second = operations_take a.0.0 a.0.1 b.0 first.0.rest_fits b.1 in
    let nothing : b.0.1 ≡ [] = nil_from_length b.0.1 (eqb-true _ _ h.0) in
    let both = (Takes-then bytes (to_be_bytes w32 a.0.0) a.0.1 (flat_map operation_bytes b.0.0) b.0.1 first.0 second.0).parts in
    let whole : bytes ≡ batch_bytes b.0.0 = both ∙ ap (λ (r : List ℕ). (to_be_bytes w32 a.0.0 ++ flat_map operation_bytes b.0.0) ++ r) nothing ∙ append-nil (to_be_bytes w32 a.0.0 ++ flat_map operation_bytes b.0.0) ∙ ap (λ (k : ℕ). to_be_bytes w32 k ++ flat_map operation_bytes b.0.0) (sym second.1) in
    subst (λ (v : List Operation). IsBatch v × (bytes ≡ batch_bytes v)) g.1 (record { count = omega (arith, second.1, first.1); each = second.2; order = h.1 }, whole)

-- a batch's bytes are read as the batch
pub batch_again : (xs : List Operation) → IsBatch xs → read_batch (batch_bytes xs) ≡ Some xs
unfolding read_batch batch_bytes
batch_again xs batch =
    let rest : operations_at (length xs) (flat_map operation_bytes xs) ≡ Some (xs, []) = ap (operations_at (length xs)) (sym (append-nil (flat_map operation_bytes xs))) ∙ operations_again xs [] batch.each in
    rw (number_again w32 (2 ^ 32) wide32 (length xs) (flat_map operation_bytes xs) batch.count, rest, batch.order) refl

-- two batches of the same bytes are one
pub one_batch : (xs ys : List Operation) → IsBatch xs → IsBatch ys → batch_bytes xs ≡ batch_bytes ys → xs ≡ ys
one_batch xs ys p q e = some_is xs ys (sym (batch_again xs p) ∙ ap read_batch e ∙ batch_again ys q)

pub found : (bytes : List ℕ) (xs : List Operation) → IsBytes bytes → read_batch bytes ≡ Some xs → IsBatch xs × (bytes ≡ batch_bytes xs) × (false ≡ false)
found bytes xs fits e = let t = batch_takes bytes xs fits e in (t.0, t.1, refl)

pub only : (bytes : List ℕ) (xs ys : List Operation) → read_batch bytes ≡ Some xs → IsBatch ys → bytes ≡ batch_bytes ys → xs ≡ ys
only bytes xs ys e batch is = some_is xs ys (sym e ∙ ap read_batch is ∙ batch_again ys batch)

pub refused : (fault : BatchFault) (bytes : List ℕ) (xs : List Operation) → Fails fault (read_batch bytes) → fault ≡ Malformed → IsBatch xs → bytes ≡ batch_bytes xs → ⊥
refused fault bytes xs fails is-malformed batch is =
    let none : read_batch bytes ≡ None = subst (λ d. Fails d (read_batch bytes)) is-malformed fails in
    let some : read_batch bytes ≡ Some xs = ap read_batch is ∙ batch_again xs batch in
    cc
