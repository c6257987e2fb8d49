-- What is kept of a batch stays one.
use Rattle.std.proofs.Common.{◌≡◌, ℕ, ◌+◌, ◌^◌, ◌<◌, true, false, List, [], ◌∷◌, ◌++◌, length, Option, Some, None, sym, ap, ◌∙◌, length-append}
use Rattle.std.specs.Prelude.{is_some}
use Rattle.std.specs.Global.{Vec}
use Rattle.std.specs.List.{AllByRecursion}
use Rattle.std.specs.List.Sorted.{IsPermutation}
use Rattle.std.proofs.lemmas.List.Sorted.{All-permutation, length_permutation}
use Rattle.std.proofs.lemmas.List.Elements.{recursion_from_All, All-from_recursion}
use Rattle.row_batch.specs.declared.operation.Operation.{Operation}
use Rattle.row_batch.specs.Order.{IsArranged}
use Rattle.row_batch.specs.Batches.{BatchValue, Fits, HasRoom, IsBatch, frame}
use Rattle.row_batch.specs.Kept.{IsKept, IsFramed}

abbrev pub shown : List Operation → Option (Vec ℕ) → BatchValue
shown operations framed = record { operations = operations; is_framed = is_some framed }

kept_open : (operations : List Operation) (framed : Option (Vec ℕ)) → HasRoom operations → is_some framed ≡ false → IsKept operations framed
kept_open operations None room open-is = record { room = room; framed_is = λ x e. absurd cc }
kept_open operations (Some v) room open-is = absurd cc

all_more : (xs ys : List Operation) → AllByRecursion Fits xs → AllByRecursion Fits ys → AllByRecursion Fits (xs ++ ys)
all_more [] ys p q = q
all_more (x ∷ xs) ys p q = (p.0, all_more xs ys p.1 q)

-- after operations came behind those that are there
pub kept_more : (xs more new : List Operation) (framed : Option (Vec ℕ)) (value : BatchValue) → shown xs framed ≡ value → IsKept xs framed → value.is_framed ≡ false
    → AllByRecursion Fits more → length value.operations + length more < 2 ^ 32 → new ≡ xs ++ more → IsKept new framed
kept_more xs more new framed value view kept is-open each room is =
    let short : length xs + length more < 2 ^ 32 = rw (ap (λ (v : BatchValue). length v.operations) view) room in
    rw is (kept_open (xs ++ more) framed (record { count = rw length-append short; each = all_more xs more kept.room.each each }) (ap (λ (v : BatchValue). v.is_framed) view ∙ is-open))

-- operations in another order have room too
pub room_arranged : (xs ys : List Operation) → IsPermutation xs ys → HasRoom xs → HasRoom ys
room_arranged xs ys same room = record {
  count = rw (length_permutation xs ys same) room.count;
  each = recursion_from_All Fits ys (All-permutation Fits xs ys same (All-from_recursion Fits xs room.each));
}

-- the operations of a batch that is framed are one in order
pub batch_of : (xs : List Operation) (framed : Option (Vec ℕ)) → IsKept xs framed → is_some framed ≡ true → IsBatch xs
batch_of xs (Some v) kept e = record { count = kept.room.count; each = kept.room.each; order = (kept.framed_is v (λ i. Some v)).order }
batch_of xs None kept e = absurd cc

pub room_of_batch : (xs : List Operation) → IsBatch xs → HasRoom xs
room_of_batch xs batch = record { count = batch.count; each = batch.each }

pub kept_framed : (came xs : List Operation) (bytes : Vec ℕ) → IsArranged came xs → HasRoom came → bytes.items ≡ frame xs → IsKept xs (Some bytes)
kept_framed came xs bytes arranged room is = record {
  room = room_arranged came xs arranged.same room;
  framed_is = λ v e. framed v (one bytes v e);
}
  where
    one : (a b : Vec ℕ) → Some a ≡ Some b → a ≡ b
    one a b e = cc

    framed : (v : Vec ℕ) → bytes ≡ v → IsFramed xs v.items
    framed v e = record { order = arranged.order; frame_is = ap (λ (w : Vec ℕ). w.items) (sym e) ∙ is }
