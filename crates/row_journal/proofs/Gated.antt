-- The batches that bytes begin with.
use Rattle.std.proofs.Common.{◌≡◌, ℕ, ◌+◌, ◌-◌, ◌<◌, ◌^◌, List, [], ◌∷◌, ◌++◌, length, take, drop, refl, sym, ◌∙◌, ap, subst, arith, append_assoc, length-append}
use Rattle.std.proofs.lemmas.List.{take_at, drop_at}
use Rattle.std.proofs.lemmas.Nat.{from_be_bytes-to_be_bytes_8}
use Rattle.std.specs.List.{AllByRecursion}
use Rattle.std.specs.Int.{w64, to_be_bytes, from_be_bytes}
use Rattle.row_batch.specs.declared.operation.Operation.{Operation}
use Rattle.row_batch.specs.Batches.{IsBatch, batch_bytes}
use Rattle.row_batch.proofs.Readings.{one_batch}
use Rattle.row_journal.specs.Contents.{IsSized, sized, gated, Holds}
use Rattle.row_journal.specs.Opening.{IsFaulty, FaultyFrom, IsReadFault, IsNoBatch, IsOpen}
use Rattle.row_journal.specs.declared.outcome.JournalFault.{JournalFault}
use Rattle.row_journal.specs.declared.outcome.JournalFault.TheVariants.{Fault, Malformed, Memory}
use Rattle.row_journal.proofs.Bytes.{gated-push, each-push}

-- bytes behind their length, and what follows them, are determined by the whole
content_same : (c d m n : List ℕ) → length c < 2 ^ 64 → length d < 2 ^ 64 → (to_be_bytes w64 (length c) ++ c) ++ m ≡ (to_be_bytes w64 (length d) ++ d) ++ n → (c ≡ d) × (m ≡ n)
content_same c d m n fits_c fits_d is =
    let sizes : length c ≡ length d = sym (from_be_bytes-to_be_bytes_8 (length c) fits_c) ∙ ap (λ (l : List ℕ). from_be_bytes w64 (take 8 l)) is ∙ from_be_bytes-to_be_bytes_8 (length d) fits_d in
    let rest : c ++ m ≡ d ++ n = ap (λ (l : List ℕ). drop 8 l) is in (
      sym (take_at c m (length c) refl) ∙ ap (λ (l : List ℕ). take (length c) l) rest ∙ take_at d n (length c) (sym sizes),
      sym (drop_at c m (length c) refl) ∙ ap (λ (l : List ℕ). drop (length c) l) rest ∙ drop_at d n (length c) (sym sizes),
    )

-- no open gate with a batch behind it stands at the front
pub record Stops (bytes : List ℕ) : Type 0 where
  pub none : (batch : List Operation) (more : List ℕ) → IsSized batch → bytes ≡ (1 ∷ sized batch) ++ more → ⊥

closed_stops : (gate : ℕ) (more : List ℕ) → (gate ≡ 1 → ⊥) → Stops (gate ∷ more)
closed_stops gate more closed = record { none = λ batch rest is_sized is. closed (cc) }

faulty_stops : (bytes : List ℕ) → IsFaulty bytes → Stops bytes
faulty_stops [] faulty = record { none = λ batch rest is_sized is. absurd (cc) }
faulty_stops (gate ∷ bytes) faulty = record { none = λ batch rest is_sized is. faulty.1 (record { batch = batch; more = rest; is_sized = is_sized; split = ap (λ (l : List ℕ). drop 1 l) is }) }

-- the batches at the front, and what follows them, are determined by the whole
one_front : (a b : List (List Operation)) (r s : List ℕ) → AllByRecursion IsSized a → AllByRecursion IsSized b → Stops r → Stops s → gated a ++ r ≡ gated b ++ s → (a ≡ b) × (r ≡ s)
one_front [] [] r s each_a each_b stops_r stops_s is = (refl, is)
one_front [] (y ∷ b) r s each_a each_b stops_r stops_s is = absurd (stops_r.none y (gated b ++ s) each_b.0 (is ∙ append_assoc (1 ∷ sized y) (gated b) s))
one_front (x ∷ a) [] r s each_a each_b stops_r stops_s is = absurd (stops_s.none x (gated a ++ r) each_a.0 (sym is ∙ append_assoc (1 ∷ sized x) (gated a) r))
one_front (x ∷ a) (y ∷ b) r s each_a each_b stops_r stops_s is =
    let whole : (1 ∷ sized x) ++ (gated a ++ r) ≡ (1 ∷ sized y) ++ (gated b ++ s) = sym (append_assoc (1 ∷ sized x) (gated a) r) ∙ is ∙ append_assoc (1 ∷ sized y) (gated b) s in
    let parts = content_same (batch_bytes x) (batch_bytes y) (gated a ++ r) (gated b ++ s) each_a.0.fits each_b.0.fits (ap (λ (l : List ℕ). drop 1 l) whole) in
    let first = one_batch x y each_a.0.is_batch each_b.0.is_batch parts.0 in
    let others = one_front a b r s each_a.1 each_b.1 stops_r stops_s parts.1 in
    (ap (λ (z : List Operation). z ∷ a) first ∙ ap (λ (z : List (List Operation)). y ∷ z) others.0, others.1)

module _ (at : ℕ) (file : List ℕ) where
  -- a file holds at most one list of batches
  pub one_content : (a b : List (List Operation)) → Holds at a file → Holds at b file → a ≡ b
  one_content a b one two =
      (one_front a b (one.gate ∷ one.rest) (two.gate ∷ two.rest) one.each two.each (closed_stops one.gate one.rest one.closed) (closed_stops two.gate two.rest two.closed) (sym one.stands ∙ two.stands)).0

  shut_or_faulty : (gate : ℕ) (rest bytes : List ℕ) → (gate ≡ 1 → ⊥) → IsFaulty bytes → gate ∷ rest ≡ bytes → ⊥
  shut_or_faulty gate rest [] closed faulty is = absurd (cc)
  shut_or_faulty gate rest (byte ∷ bytes) closed faulty is = closed (let same : gate ≡ byte = cc in same ∙ faulty.0)

  -- one that holds batches has no fault
  pub never_both : (a : List (List Operation)) (place : ℕ) → Holds at a file → FaultyFrom at place (drop at file) → ⊥
  never_both a place holds faulty =
      let parts = one_front a faulty.batches (holds.gate ∷ holds.rest) faulty.rest holds.each faulty.each (closed_stops holds.gate holds.rest holds.closed) (faulty_stops faulty.rest faulty.faulty) (sym holds.stands ∙ faulty.stands) in
      shut_or_faulty holds.gate holds.rest faulty.rest holds.closed faulty.faulty parts.1

-- and there is at most one fault
pub one_fault : (at p q : ℕ) (bytes : List ℕ) → FaultyFrom at p bytes → FaultyFrom at q bytes → p ≡ q
one_fault at p q bytes one two =
    let parts = one_front one.batches two.batches one.rest two.rest one.each two.each (faulty_stops one.rest one.faulty) (faulty_stops two.rest two.faulty) (sym one.stands ∙ two.stands) in
    one.place_is ∙ ap (λ (l : List (List Operation)). at + length (gated l)) parts.0 ∙ sym two.place_is

-- a gate before bytes that are no batch's
pub content_faulty : (content more bytes : List ℕ) → IsOpen content more bytes → ((batch : List Operation) → IsBatch batch → content ≡ batch_bytes batch → ⊥) → IsFaulty bytes
content_faulty content more bytes open_gate none =
    subst IsFaulty (sym open_gate.split)
    (refl, λ begins. none begins.batch begins.is_sized.is_batch (content_same content (batch_bytes begins.batch) more begins.more open_gate.fits begins.is_sized.fits begins.split).0)

module _ (bytes rest content more : List ℕ) (batches : List (List Operation)) (stands : bytes ≡ gated batches ++ rest) (each : AllByRecursion IsSized batches) (open_gate : IsOpen content more rest) where
  -- where the bytes behind an open gate aren't read
  pub read_fault : (at place : ℕ) (fault : JournalFault) → place ≡ at + (length bytes - length rest) → IsNoBatch place content fault → IsReadFault at bytes fault
  read_fault at place (Fault count) place_is no_batch = no_batch
  read_fault at place (Malformed found) place_is no_batch = record {
    batches = batches;
    each = each;
    rest = rest;
    stands = stands;
    faulty = content_faulty content more rest open_gate no_batch.1;
    place_is = omega (arith, no_batch.0, place_is, ap length stands, length-append (gated batches) rest);
  }
  read_fault at place Memory place_is no_batch = tt

  -- where they are a batch
  module _ (batch : List Operation) (is_batch : IsBatch batch) (is : content ≡ batch_bytes batch) where
    pub stands_on : bytes ≡ gated (batches ++ batch ∷ []) ++ more
    stands_on =
        let front : rest ≡ (1 ∷ sized batch) ++ more = open_gate.split ∙ ap (λ (c : List ℕ). 1 ∷ ((to_be_bytes w64 (length c) ++ c) ++ more)) is in
        stands ∙ ap (λ (l : List ℕ). gated batches ++ l) front ∙ sym (append_assoc (gated batches) (1 ∷ sized batch) more) ∙ ap (λ (l : List ℕ). l ++ more) (sym (gated-push batches batch))

    pub each_on : AllByRecursion IsSized (batches ++ batch ∷ [])
    each_on = each-push batches batch each (record { is_batch = is_batch; fits = subst (λ (c : List ℕ). length c < 2 ^ 64) is open_gate.fits })
