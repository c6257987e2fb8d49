-- Where a put lies in the frame of a batch.
use Rattle.std.proofs.Common.{◌≡◌, ℕ, zero, suc, ◌+◌, ◌-◌, ◌^◌, ◌<◌, ◌≤◌, List, [], ◌∷◌, ◌++◌, length, get_or, take, drop, Option, Some, None, refl, sym, ap, subst, ◌∙◌, append_assoc, arith, length-append, length-set}
use Rattle.std.specs.Prelude.{slice_get, slice_set}
use Rattle.std.specs.List.{flat_map, AllByRecursion}
use Rattle.std.specs.Int.{w16, w32, w64, to_be_bytes}
use Rattle.std.specs.List.Sorted.{IsPermutation}
use Rattle.std.proofs.lemmas.List.{take_at, drop_at}
use Rattle.std.proofs.lemmas.List.Concat.{length-flat_map}
use Rattle.std.proofs.lemmas.List.Sorted.{sum_by-IsPermutation, length_permutation}
use Rattle.row_batch.specs.declared.operation.Operation.{Operation}
use Rattle.row_batch.specs.declared.operation.Operation.TheVariants.{Delete, DeletePrefix, Put}
use Rattle.row_batch.specs.Batches.{operation_bytes, batch_bytes, frame, frame_head, Fits, PutsAsLong}

-- ---- bytes written over others

pub overwritten : (front old new back whole : List ℕ) (at : ℕ) → whole ≡ front ++ (old ++ back) → length front ≡ at → length old ≡ length new → take at whole ++ (new ++ drop (at + length new) whole) ≡ front ++ (new ++ back)
overwritten front old new back whole at is len same =
    let regrouped : front ++ (old ++ back) ≡ (front ++ old) ++ back = sym (append_assoc front old back) in
    let first : take at whole ≡ front = ap (take at) is ∙ take_at front (old ++ back) at len in
    let len_both : length (front ++ old) ≡ at + length new = omega (arith, length-append front old) in
    let last : drop (at + length new) whole ≡ back = ap (drop (at + length new)) (is ∙ regrouped) ∙ drop_at (front ++ old) back (at + length new) len_both in
    rw (first, last) refl

-- ---- the operations before one, and behind it

pub record IsCut (operations : List Operation) (place : ℕ) (old new : Operation) : Type 0 where
  pub before : flat_map operation_bytes operations ≡ flat_map operation_bytes (take place operations) ++ (operation_bytes old ++ flat_map operation_bytes (drop (suc place) operations))
  pub after : flat_map operation_bytes (slice_set operations place new) ≡ flat_map operation_bytes (take place operations) ++ (operation_bytes new ++ flat_map operation_bytes (drop (suc place) operations))

some_is : (x y : Operation) → Some x ≡ Some y → x ≡ y
some_is x y e = cc

cut_at : (operations : List Operation) (place : ℕ) (old new : Operation) → slice_get operations place ≡ Some old → IsCut operations place old new
cut_at [] place old new e = absurd cc
cut_at (x ∷ xs) zero old new e = record { before = ap (λ (o : Operation). operation_bytes o ++ flat_map operation_bytes xs) (some_is x old e); after = refl }
cut_at (x ∷ xs) (suc place) old new e =
    let rest = cut_at xs place old new e in
    let front = flat_map operation_bytes (take place xs) in
    let back = flat_map operation_bytes (drop (suc place) xs) in
    record {
      before = ap (λ (t : List ℕ). operation_bytes x ++ t) rest.before ∙ sym (append_assoc (operation_bytes x) front (operation_bytes old ++ back));
      after = ap (λ (t : List ℕ). operation_bytes x ++ t) rest.after ∙ sym (append_assoc (operation_bytes x) front (operation_bytes new ++ back));
    }

-- ---- the shape of a frame

front_of : ℕ → ℕ → List ℕ → ℕ → List ℕ
front_of n count before key_len = to_be_bytes w64 n ++ (to_be_bytes w32 count ++ (before ++ (1 ∷ to_be_bytes w16 key_len)))

length-front_of : (n count : ℕ) (before : List ℕ) (key_len : ℕ) → length (front_of n count before key_len) ≡ length before + 15
unfolding front_of
length-front_of n count before key_len = omega (arith, length-append before (1 ∷ to_be_bytes w16 key_len))

size_of : List ℕ → List ℕ → List ℕ → List ℕ → ℕ
size_of before key value back = 4 + (length before + ((1 + ((2 + length key) + (4 + length value))) + length back))

regroup : (w c p t k m v r z : List ℕ) → w ++ ((c ++ (p ++ ((t ++ (k ++ (m ++ v))) ++ r))) ++ z) ≡ (w ++ (c ++ (p ++ t))) ++ (k ++ (m ++ (v ++ (r ++ z))))
regroup w c p t k m v r z = simp append_assoc

length-put : (key value : List ℕ) → length (operation_bytes (Put key value)) ≡ 1 + ((2 + length key) + (4 + length value))
unfolding operation_bytes
length-put key value = omega (arith, length-append (to_be_bytes w16 (length key)) key, length-append (to_be_bytes w32 (length value)) value, length-append (to_be_bytes w16 (length key) ++ key) (to_be_bytes w32 (length value) ++ value))

length-batch : (xs : List Operation) (before back key value : List ℕ) → flat_map operation_bytes xs ≡ before ++ (operation_bytes (Put key value) ++ back) → length (batch_bytes xs) ≡ size_of before key value back
unfolding batch_bytes size_of
length-batch xs before back key value is =
    let put_len = length-put key value in
    let all : length (flat_map operation_bytes xs) ≡ length before + (length (operation_bytes (Put key value)) + length back) = ap length is ∙ omega (arith, length-append before (operation_bytes (Put key value) ++ back), length-append (operation_bytes (Put key value)) back) in
    omega (arith, all, put_len, length-append (to_be_bytes w32 (length xs)) (flat_map operation_bytes xs))

shape : (xs : List Operation) (before back key value : List ℕ) → flat_map operation_bytes xs ≡ before ++ (operation_bytes (Put key value) ++ back)
    → frame xs ≡ front_of (size_of before key value back) (length xs) before (length key) ++ (key ++ (to_be_bytes w32 (length value) ++ (value ++ (back ++ 0 ∷ []))))
unfolding frame batch_bytes operation_bytes front_of
shape xs before back key value is =
    let n = length-batch xs before back key value is in
    ap (λ (k : ℕ). to_be_bytes w64 k ++ (batch_bytes xs ++ 0 ∷ [])) n
    ∙ ap (λ (f : List ℕ). to_be_bytes w64 (size_of before key value back) ++ ((to_be_bytes w32 (length xs) ++ f) ++ 0 ∷ [])) is
    ∙ regroup (to_be_bytes w64 (size_of before key value back)) (to_be_bytes w32 (length xs)) before (1 ∷ to_be_bytes w16 (length key)) key (to_be_bytes w32 (length value)) value back (0 ∷ [])

-- a put in a frame, and the frame with another key and value as long
pub record Spot (operations : List Operation) (place : ℕ) (key value : List ℕ) : Type 0 where
  pub front : List ℕ
  pub middle : List ℕ
  pub back : List ℕ
  pub old_key : List ℕ
  pub old_value : List ℕ
  pub at : length front ≡ length (flat_map operation_bytes (take place operations)) + 15
  pub middle_len : length middle ≡ 4
  pub same_key : length old_key ≡ length key
  pub same_value : length old_value ≡ length value
  pub before : frame operations ≡ front ++ (old_key ++ (middle ++ (old_value ++ back)))
  pub after : frame (slice_set operations place (Put key value)) ≡ front ++ (key ++ (middle ++ (value ++ back)))

size_same : (before key value old_key old_value back : List ℕ) → length old_key ≡ length key → length old_value ≡ length value → size_of before key value back ≡ size_of before old_key old_value back
unfolding size_of
size_same before key value old_key old_value back p q = omega arith

spot_of : (operations : List Operation) (place : ℕ) (key value : List ℕ) (here : Option Operation) → slice_get operations place ≡ here → PutsAsLong key value here → Spot operations place key value
spot_of operations place key value (Some (Put old_key old_value)) e h =
    let cut = cut_at operations place (Put old_key old_value) (Put key value) e in
    let before = flat_map operation_bytes (take place operations) in
    let back = flat_map operation_bytes (drop (suc place) operations) in
    let n = size_of before old_key old_value back in
    let count = length operations in
    let new = shape (slice_set operations place (Put key value)) before back key value cut.after in
    let same_n = size_same before key value old_key old_value back h.0 h.1 in
    let same_count : length (slice_set operations place (Put key value)) ≡ count = length-set operations place (Put key value) in
    record {
      front = front_of n count before (length old_key);
      middle = to_be_bytes w32 (length old_value);
      back = back ++ 0 ∷ [];
      old_key = old_key;
      old_value = old_value;
      at = length-front_of n count before (length old_key);
      middle_len = refl;
      same_key = h.0;
      same_value = h.1;
      before = shape operations before back old_key old_value cut.before;
      after = new
          ∙ ap (λ (m : ℕ). front_of m (length (slice_set operations place (Put key value))) before (length key) ++ (key ++ (to_be_bytes w32 (length value) ++ (value ++ (back ++ 0 ∷ []))))) same_n
          ∙ ap (λ (c : ℕ). front_of n c before (length key) ++ (key ++ (to_be_bytes w32 (length value) ++ (value ++ (back ++ 0 ∷ []))))) same_count
          ∙ ap (λ (l : ℕ). front_of n count before l ++ (key ++ (to_be_bytes w32 (length value) ++ (value ++ (back ++ 0 ∷ []))))) (sym h.0)
          ∙ ap (λ (l : ℕ). front_of n count before (length old_key) ++ (key ++ (to_be_bytes w32 l ++ (value ++ (back ++ 0 ∷ []))))) (sym h.1);
    }
spot_of operations place key value (Some (Delete old)) e h = absurd h
spot_of operations place key value (Some (DeletePrefix old)) e h = absurd h
spot_of operations place key value None e h = absurd h

pub spot : (operations : List Operation) (place : ℕ) (key value : List ℕ) → PutsAsLong key value (slice_get operations place) → Spot operations place key value
spot operations place key value h = spot_of operations place key value (slice_get operations place) refl h

-- ---- what the code owes

pub operations_in_frame : (operations : List Operation) → length (flat_map operation_bytes operations) ≤ length (frame operations)
unfolding frame batch_bytes
operations_in_frame operations = omega (arith, length-append (to_be_bytes w32 (length operations)) (flat_map operation_bytes operations), length-append (batch_bytes operations) (0 ∷ []), length-append (to_be_bytes w64 (length (batch_bytes operations))) (batch_bytes operations ++ 0 ∷ []))

length-spot : (front key middle value back whole : List ℕ) → whole ≡ front ++ (key ++ (middle ++ (value ++ back))) → length whole ≡ length front + (length key + (length middle + (length value + length back)))
length-spot front key middle value back whole is = ap length is ∙ omega (arith, length-append front (key ++ (middle ++ (value ++ back))), length-append key (middle ++ (value ++ back)), length-append middle (value ++ back), length-append value back)

-- the key and the value lie within the frame
pub spot_within : (operations : List Operation) (place : ℕ) (key value bytes : List ℕ) → bytes ≡ frame operations → PutsAsLong key value (slice_get operations place) → length (flat_map operation_bytes (take place operations)) + 19 + length key + length value ≤ length bytes
spot_within operations place key value bytes is h =
    let s = spot operations place key value h in
    omega (arith, length-spot s.front s.old_key s.middle s.old_value s.back bytes (is ∙ s.before), s.at, s.middle_len, s.same_key, s.same_value)

pub spot_rewritten : (operations : List Operation) (place : ℕ) (key value bytes keyed done : List ℕ) (at : ℕ) → bytes ≡ frame operations → PutsAsLong key value (slice_get operations place) → at ≡ length (flat_map operation_bytes (take place operations))
    → keyed ≡ take (at + 15) bytes ++ (key ++ drop (at + 15 + length key) bytes)
    → done ≡ take (at + 19 + length key) keyed ++ (value ++ drop (at + 19 + length key + length value) keyed)
    → done ≡ frame (slice_set operations place (Put key value))
spot_rewritten operations place key value bytes keyed done at is h at_is first second =
    let s = spot operations place key value h in
    let len : length s.front ≡ at + 15 = omega (arith, s.at, at_is) in
    let keyed_is : keyed ≡ s.front ++ (key ++ (s.middle ++ (s.old_value ++ s.back))) = first ∙ overwritten s.front s.old_key key (s.middle ++ (s.old_value ++ s.back)) bytes (at + 15) (is ∙ s.before) len s.same_key in
    let regrouped : s.front ++ (key ++ (s.middle ++ (s.old_value ++ s.back))) ≡ (s.front ++ (key ++ s.middle)) ++ (s.old_value ++ s.back) = simp append_assoc in
    let len_all : length (s.front ++ (key ++ s.middle)) ≡ at + 19 + length key = omega (arith, len, s.middle_len, length-append s.front (key ++ s.middle), length-append key s.middle) in
    let done_is : done ≡ (s.front ++ (key ++ s.middle)) ++ (value ++ s.back) = second ∙ overwritten (s.front ++ (key ++ s.middle)) s.old_value value s.back keyed (at + 19 + length key) (keyed_is ∙ regrouped) len_all s.same_value in
    let back_again : (s.front ++ (key ++ s.middle)) ++ (value ++ s.back) ≡ s.front ++ (key ++ (s.middle ++ (value ++ s.back))) = simp append_assoc in
    done_is ∙ back_again ∙ sym s.after

-- a piece and those before it are no longer than all
pub one_more_within : (operations : List Operation) (i : ℕ) (d : Operation) → i < length operations → length (flat_map operation_bytes (take i operations)) + length (operation_bytes (get_or operations i d)) ≤ length (flat_map operation_bytes operations)
one_more_within [] i d h = absurd (omega arith)
one_more_within (x ∷ xs) zero d h = omega (arith, length-append (operation_bytes x) (flat_map operation_bytes xs))
one_more_within (x ∷ xs) (suc i) d h =
    let rest = one_more_within xs i d (omega arith) in
    omega (arith, rest, length-append (operation_bytes x) (flat_map operation_bytes xs), length-append (operation_bytes x) (flat_map operation_bytes (take i xs)))

pub front_within : (operations : List Operation) (n : ℕ) → length (flat_map operation_bytes (take n operations)) ≤ length (flat_map operation_bytes operations)
front_within [] zero = omega arith
front_within [] (suc n) = omega arith
front_within (x ∷ xs) zero = omega arith
front_within (x ∷ xs) (suc n) =
    let rest = front_within xs n in
    omega (arith, rest, length-append (operation_bytes x) (flat_map operation_bytes xs), length-append (operation_bytes x) (flat_map operation_bytes (take n xs)))

-- a place with a put is a place
pub place_within : (operations : List Operation) (place : ℕ) (key value : List ℕ) → PutsAsLong key value (slice_get operations place) → place < length operations
place_within [] place key value h = absurd h
place_within (x ∷ xs) zero key value h = omega arith
place_within (x ∷ xs) (suc place) key value h = let rest = place_within xs place key value h in omega arith

-- ---- how a frame is written

pub length-frame : (operations : List Operation) → length (frame operations) ≡ 13 + length (flat_map operation_bytes operations)
unfolding frame batch_bytes
length-frame operations = omega (arith, length-append (to_be_bytes w32 (length operations)) (flat_map operation_bytes operations), length-append (batch_bytes operations) (0 ∷ []), length-append (to_be_bytes w64 (length (batch_bytes operations))) (batch_bytes operations ++ 0 ∷ []))

pub length-batch_bytes : (operations : List Operation) → length (batch_bytes operations) ≡ 4 + length (flat_map operation_bytes operations)
unfolding batch_bytes
length-batch_bytes operations = omega (arith, length-append (to_be_bytes w32 (length operations)) (flat_map operation_bytes operations))

pub length-frame_head : (operations : List Operation) → length (frame_head operations) ≡ 12
unfolding frame_head
length-frame_head operations = omega (arith, length-append (to_be_bytes w64 (length (batch_bytes operations))) (to_be_bytes w32 (length operations)))

-- the head, the operations and a closed gate are the frame
pub frame_is : (operations : List Operation) → (frame_head operations ++ flat_map operation_bytes operations) ++ 0 ∷ [] ≡ frame operations
unfolding frame frame_head batch_bytes
frame_is operations = simp append_assoc

pub head_is : (operations : List Operation) (size : ℕ) (first second : List ℕ) → size ≡ length (frame operations) → first ≡ to_be_bytes w64 (size - 9) → second ≡ to_be_bytes w32 (length operations) → first ++ second ≡ frame_head operations
unfolding frame_head
head_is operations size first second is a b =
    let k : size - 9 ≡ length (batch_bytes operations) = omega (arith, length-frame operations, length-batch_bytes operations) in
    rw (a, b, k) refl

pub length-operation : (x : Operation) → Fits x → length (operation_bytes x) < 2 ^ 64
unfolding operation_bytes
length-operation (Put key value) fits = omega (arith, fits.0, fits.1, length-append (to_be_bytes w16 (length key)) key, length-append (to_be_bytes w32 (length value)) value, length-append (to_be_bytes w16 (length key) ++ key) (to_be_bytes w32 (length value) ++ value))
length-operation (Delete key) fits = omega (arith, fits, length-append (to_be_bytes w16 (length key)) key)
length-operation (DeletePrefix key) fits = omega (arith, fits, length-append (to_be_bytes w16 (length key)) key)

-- operations in another order have a head and a frame as long
pub same_head : (xs ys : List Operation) → IsPermutation xs ys → frame_head xs ≡ frame_head ys
unfolding frame_head
same_head xs ys same =
    let flat : length (flat_map operation_bytes ys) ≡ length (flat_map operation_bytes xs) = length-flat_map operation_bytes ys ∙ sum_by-IsPermutation (λ x. length (operation_bytes x)) xs ys same ∙ sym (length-flat_map operation_bytes xs) in
    let size : length (batch_bytes ys) ≡ length (batch_bytes xs) = omega (arith, flat, length-batch_bytes xs, length-batch_bytes ys) in
    rw (size, length_permutation xs ys same) refl

pub same_size : (xs ys : List Operation) → IsPermutation xs ys → length (frame ys) ≡ length (frame xs)
same_size xs ys same =
    let flat : length (flat_map operation_bytes ys) ≡ length (flat_map operation_bytes xs) = length-flat_map operation_bytes ys ∙ sum_by-IsPermutation (λ x. length (operation_bytes x)) xs ys same ∙ sym (length-flat_map operation_bytes xs) in
    omega (arith, flat, length-frame xs, length-frame ys)

-- each of some operations fits
pub fits_at : (operations : List Operation) (i : ℕ) (x : Operation) → AllByRecursion Fits operations → i < length operations → x ≡ get_or operations i x → Fits x
fits_at [] i x fits lt e = absurd (omega arith)
fits_at (y ∷ ys) zero x fits lt e = subst Fits (sym e) fits.0
fits_at (y ∷ ys) (suc i) x fits lt e = fits_at ys i x fits.1 (omega arith) e
