-- The bytes of a journal, and what a write leaves of them.
use Rattle.std.proofs.Common.{◌≡◌, ℕ, ◌+◌, ◌-◌, ◌<◌, ◌≤◌, List, [], ◌∷◌, ◌++◌, length, get_or, take, drop, sym, ◌∙◌, ap, arith, append_assoc, length-append, length-drop, take-append-drop}
use Rattle.std.proofs.lemmas.List.{take_at, drop_at, drop_more, append-nil, ext_get_or, get_or-take, get_or-drop, length-take-le}
use Rattle.std.specs.List.{AllByRecursion}
use Rattle.std.specs.Int.{w64, to_be_bytes}
use Rattle.disk_trait.specs.Change.{overlaid}
use Rattle.disk_trait.specs.Crash.{Torn}
use Rattle.row_batch.specs.declared.operation.Operation.{Operation}
use Rattle.row_batch.specs.Batches.{batch_bytes, frame}
use Rattle.row_journal.specs.Contents.{IsSized, sized, gated}

-- a batch more at the end
pub gated-push : (batches : List (List Operation)) (batch : List Operation) → gated (batches ++ batch ∷ []) ≡ gated batches ++ (1 ∷ sized batch)
gated-push [] batch = append-nil (1 ∷ sized batch)
gated-push (first ∷ batches) batch = ap (λ (l : List ℕ). (1 ∷ sized first) ++ l) (gated-push batches batch) ∙ sym (append_assoc (1 ∷ sized first) (gated batches) (1 ∷ sized batch))

pub each-push : (batches : List (List Operation)) (batch : List Operation) → AllByRecursion IsSized batches → IsSized batch → AllByRecursion IsSized (batches ++ batch ∷ [])
each-push [] batch each new = (new, tt)
each-push (first ∷ batches) batch each new = (each.0, each-push batches batch each.1 new)

-- a frame is a length with its batch, and a closed gate
pub frame_is : (batch : List Operation) → frame batch ≡ sized batch ++ 0 ∷ []
unfolding frame
frame_is batch = sym (append_assoc (to_be_bytes w64 (length (batch_bytes batch))) (batch_bytes batch) (0 ∷ []))

pub frame_size : (batch : List Operation) → length (frame batch) ≡ 1 + length (sized batch)
frame_size batch = omega (arith, ap length (frame_is batch), length-append (sized batch) (0 ∷ []))

same_fronts : (n : ℕ) (xs ys : List ℕ) → n ≤ length xs → n ≤ length ys → ((i : ℕ) → i < n → get_or xs i 0 ≡ get_or ys i 0) → take n xs ≡ take n ys
same_fronts n xs ys in_xs in_ys same =
    let long_x = length-take-le n xs in_xs in
    ext_get_or 0 (take n xs) (take n ys) (long_x ∙ sym (length-take-le n ys in_ys))
    (λ i lt. let below : i < n = omega (arith, long_x, lt) in get_or-take n xs i 0 below ∙ same i below ∙ sym (get_or-take n ys i 0 below))

-- a torn write at a place or behind it leaves what stands before the place
pub torn_front : (at place n : ℕ) (file x : List ℕ) → at ≤ place → at ≤ length file → Torn place n file x → take at x ≡ take at file
torn_front at place n file x le in_file torn =
    same_fronts at x file (omega (arith, torn.no_shorter, in_file)) in_file (λ i lt. torn.below i (omega (arith, lt, in_file)) (omega (arith, lt, le)))

same_backs : (n : ℕ) (xs ys : List ℕ) → length xs ≡ length ys → ((i : ℕ) → n ≤ i → i < length ys → get_or xs i 0 ≡ get_or ys i 0) → drop n xs ≡ drop n ys
same_backs n xs ys sizes same =
    ext_get_or 0 (drop n xs) (drop n ys) (length-drop n xs ∙ ap (λ (k : ℕ). k - n) sizes ∙ sym (length-drop n ys))
    (λ i lt. get_or-drop n xs i 0 ∙ same (n + i) (omega arith) (omega (arith, length-drop n xs, lt, sizes)) ∙ sym (get_or-drop n ys i 0))

module _ (front rest file : List ℕ) (byte end : ℕ) (split : file ≡ front ++ byte ∷ rest) (size : length front ≡ end) where
  pub reaches : end + 1 ≤ length file
  reaches = omega (arith, ap length split, length-append front (byte ∷ rest), size)

  front_is : take end file ≡ front
  front_is = ap (λ (l : List ℕ). take end l) split ∙ take_at front (byte ∷ rest) end size

  joined : file ≡ (front ++ byte ∷ []) ++ rest
  joined = split ∙ sym (append_assoc front (byte ∷ []) rest)

  joined_size : length (front ++ byte ∷ []) ≡ end + 1
  joined_size = omega (arith, length-append front (byte ∷ []), size)

  through_is : take (end + 1) file ≡ front ++ byte ∷ []
  through_is = ap (λ (l : List ℕ). take (end + 1) l) joined ∙ take_at (front ++ byte ∷ []) rest (end + 1) joined_size

  rest_is : drop (end + 1) file ≡ rest
  rest_is = ap (λ (l : List ℕ). drop (end + 1) l) joined ∙ drop_at (front ++ byte ∷ []) rest (end + 1) joined_size

  -- a torn write behind the byte leaves what is in front of it, and the byte
  pub torn_behind : (n : ℕ) (x : List ℕ) → Torn (end + 1) n file x → x ≡ front ++ byte ∷ drop (end + 1) x
  torn_behind n x torn =
      let same : take (end + 1) x ≡ take (end + 1) file = same_fronts (end + 1) x file (omega (arith, torn.no_shorter, reaches)) reaches (λ i lt. torn.below i (omega (arith, lt, reaches)) lt) in
      sym (take-append-drop (end + 1) x) ∙ ap (λ (l : List ℕ). l ++ drop (end + 1) x) (same ∙ through_is) ∙ append_assoc front (byte ∷ []) (drop (end + 1) x)

  -- a torn write of the byte leaves all but the byte
  pub torn_byte : (x : List ℕ) → Torn end 1 file x → x ≡ front ++ get_or x end 0 ∷ rest
  torn_byte x torn =
      let sizes : length x ≡ length file = omega (arith, torn.no_shorter, torn.no_longer, reaches) in
      let before : take end x ≡ front = same_fronts end x file (omega (arith, sizes, reaches)) (omega (arith, reaches)) (λ i lt. torn.below i (omega (arith, lt, reaches)) lt) ∙ front_is in
      let after : drop (end + 1) x ≡ rest = same_backs (end + 1) x file sizes (λ i le lt. torn.above i lt le) ∙ rest_is in
      let parts : drop end x ≡ get_or x end 0 ∷ rest = drop_more x end 0 (omega (arith, sizes, reaches)) ∙ ap (λ (l : List ℕ). get_or x end 0 ∷ l) after in
      sym (take-append-drop end x) ∙ ap (λ (l : List ℕ). l ++ drop end x) before ∙ ap (λ (l : List ℕ). front ++ l) parts

  -- bytes written behind the byte
  pub written_behind : (bytes : List ℕ) → overlaid (end + 1) bytes file ≡ front ++ byte ∷ (bytes ++ drop (end + 1 + length bytes) file)
  written_behind bytes =
      let tail = drop (end + 1 + length bytes) file in
      ap (λ (l : List ℕ). (l ++ bytes) ++ tail) through_is ∙ append_assoc (front ++ byte ∷ []) bytes tail ∙ append_assoc front (byte ∷ []) (bytes ++ tail)

  -- another byte written over it
  pub written_byte : (other : ℕ) → overlaid end (other ∷ []) file ≡ front ++ other ∷ rest
  written_byte other =
      ap (λ (l : List ℕ). (l ++ other ∷ []) ++ drop (end + 1) file) front_is ∙ ap (λ (l : List ℕ). (front ++ other ∷ []) ++ l) rest_is ∙ append_assoc front (other ∷ []) rest
