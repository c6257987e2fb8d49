-- The two steps of an append.
use Rattle.std.proofs.Common.{◌≡◌, ◌⊎◌, inl, inr, ℕ, ◌+◌, ◌-◌, ◌<◌, ◌≤◌, ◌^◌, min, List, [], ◌∷◌, ◌++◌, length, get_or, take, drop, Option, Some, None, Result, Ok, Err, OnOk, is_err, false, sym, ◌∙◌, ap, subst, arith, append_assoc, length-append, length-take, length-drop, take-append-drop}
use Rattle.std.proofs.lemmas.Bool.{cases_eq, cases_lt}
use Rattle.std.proofs.lemmas.List.{drop_at}
use Rattle.std.specs.Option.{option_map}
use Rattle.std.specs.Int.{w64, to_be_bytes}
use Rattle.disk_trait.specs.Change.{Directory, wrote, overlaid, reads_after}
use Rattle.disk_trait.specs.Story.{Story, reads, WhereTold, Images}
use Rattle.disk_trait.specs.Calls.{HasRoom}
use Rattle.disk_trait.specs.Carried.{StepsTo, Wrote, Carries, Turns, IsSettled}
use Rattle.disk_trait.proofs.Paths.{update-here}
use Rattle.disk_trait.proofs.Acts.{stays, off_trans}
use Rattle.disk_trait.proofs.Follows.{wrote_nothing}
use Rattle.row_batch.specs.declared.operation.Operation.{Operation}
use Rattle.row_batch.specs.Batches.{batch_bytes, frame}
use Rattle.row_journal.specs.Contents.{IsSized, sized, gated, Holds, IsFrame}
use Rattle.row_journal.specs.Value.{JournalValue, EndsAt, StandsSome}
use Rattle.row_journal.specs.Append.{HasGate, Has, SameFront, Keeps, MayAppend, Staged}
use Rattle.disk_trait.proofs.Turning.{turns_same}
use Rattle.row_journal.proofs.Bytes.{gated-push, each-push, frame_is, frame_size, torn_front, reaches, torn_behind, torn_byte, written_behind, written_byte}

-- where something stands at a place, the place is in the file
in_file : (at : ℕ) (file front rest : List ℕ) (byte : ℕ) → drop at file ≡ front ++ byte ∷ rest → at ≤ length file
in_file at file front rest byte is = omega (arith, length-drop at file, ap length is, length-append front (byte ∷ rest))

-- what stands from a place on, as a part of the whole file
whole : (at : ℕ) (file front rest : List ℕ) (byte : ℕ) → drop at file ≡ front ++ byte ∷ rest → file ≡ (take at file ++ front) ++ byte ∷ rest
whole at file front rest byte is = sym (take-append-drop at file) ∙ ap (λ (l : List ℕ). take at file ++ l) is ∙ sym (append_assoc (take at file) front (byte ∷ rest))

front_size : (at end : ℕ) (file front rest : List ℕ) (byte : ℕ) → drop at file ≡ front ++ byte ∷ rest → end ≡ at + length front → length (take at file ++ front) ≡ end
front_size at end file front rest byte is end_is = omega (arith, length-append (take at file) front, length-take at file, in_file at file front rest byte is, end_is)

-- and back
from_place : (at : ℕ) (file front rest x : List ℕ) (byte other : ℕ) (behind : List ℕ) → drop at file ≡ front ++ byte ∷ rest → x ≡ (take at file ++ front) ++ other ∷ behind → drop at x ≡ front ++ other ∷ behind
from_place at file front rest x byte other behind is x_is =
    let size : length (take at file) ≡ at = omega (arith, length-take at file, in_file at file front rest byte is) in
    ap (λ (l : List ℕ). drop at l) (x_is ∙ append_assoc (take at file) front (other ∷ behind)) ∙ drop_at (take at file) (front ++ other ∷ behind) at size

-- an image of a settled file
settled_at : (path : List ℕ) (d image : Directory) (x : Option (List ℕ)) → image path ≡ d path → d path ≡ x → image path ≡ x
settled_at path d image x one two = one ∙ two

-- a write at a place or behind it leaves what stands before the place
written_front : (at place n : ℕ) (file : List ℕ) (y : Option (List ℕ)) → at ≤ place → at ≤ length file → StepsTo (inl (place, n)) (Some file) y → SameFront at (Some file) y
written_front at place n file None le in_file it = absurd it
written_front at place n file (Some x) le in_file torn = torn_front at place n file x le in_file torn

-- so it does to a file of a directory
step_front : (at place n : ℕ) (file : List ℕ) (x y : Option (List ℕ)) → at ≤ place → at ≤ length file → x ≡ Some file → StepsTo (inl (place, n)) x y → SameFront at x y
step_front at place n file x y le in_file there it =
    subst (λ (z : Option (List ℕ)). SameFront at z y) (sym there) (written_front at place n file y le in_file (subst (λ (z : Option (List ℕ)). StepsTo (inl (place, n)) z y) there it))

front_trans : (at : ℕ) (x y z : Option (List ℕ)) → SameFront at x y → SameFront at y z → SameFront at x z
front_trans at None None z one two = two
front_trans at None (Some y) z one two = absurd one
front_trans at (Some x) None z one two = absurd one
front_trans at (Some x) (Some y) None one two = absurd two
front_trans at (Some x) (Some y) (Some z) one two = two ∙ one

module _ (path : List ℕ) (at end : ℕ) (batches : List (List Operation)) where
  -- a write behind the closed gate keeps the batches
  kept : (n : ℕ) (file : List ℕ) → Holds at batches file → end ≡ at + length (gated batches) → (y : Option (List ℕ)) → StepsTo (inl (end + 1, n)) (Some file) y → Has at batches y
  kept n file holds end_is None it = absurd it
  kept n file holds end_is (Some x) torn =
      let front = gated batches in
      let split = whole at file front holds.rest holds.gate holds.stands in
      let size = front_size at end file front holds.rest holds.gate holds.stands end_is in
      record {
        each = holds.each;
        gate = holds.gate;
        rest = drop (end + 1) x;
        stands = from_place at file front holds.rest x holds.gate holds.gate (drop (end + 1) x) holds.stands (torn_behind (take at file ++ front) holds.rest file holds.gate end split size n x torn);
        closed = holds.closed;
      }

  kept_by : (n : ℕ) (c d : Directory) (left : EndsAt path at end batches c) → Wrote path (inl (end + 1, n)) c d → Keeps path at batches c d
  kept_by n c d left step = record {
    off = step.off;
    front = step_front at (end + 1) n left.0 (c path) (d path) (omega (arith, left.3)) (in_file at left.0 (gated batches) left.2.rest left.2.gate left.2.stands) left.1 step.at;
    file = kept n left.0 left.2 left.3 (d path) (subst (λ (x : Option (List ℕ)). StepsTo (inl (end + 1, n)) x (d path)) left.1 step.at);
  }

  image_ends : (s : Story) (c : Directory) → EndsAt path at end batches (reads s) → c path ≡ reads s path → EndsAt path at end batches c
  image_ends s c left same = (left.0, same ∙ left.1, left.2, left.3)

  pub first_keeps : (s : Option Story) (n : ℕ) → WhereTold s (EndsAt path at end batches) → IsSettled path s → (c d : Directory) → Images s c → Wrote path (inl (end + 1, n)) c d → Keeps path at batches c d
  first_keeps None n left settled c d it step = absurd it
  first_keeps (Some s) n left settled c d it step = kept_by n c d (image_ends s c left (settled c it)) step

  pub first_reads : (s t : Option Story) (n : ℕ) → WhereTold s (EndsAt path at end batches) → Turns s t (Wrote path (inl (end + 1, n))) → Turns s t (Keeps path at batches)
  first_reads None None n left step = tt
  first_reads None (Some t) n left step = absurd step
  first_reads (Some s) None n left step = absurd step
  first_reads (Some s) (Some t) n left step = kept_by n (reads s) (reads t) left step

  module _ (batch : List Operation) where
    -- what the disk reads once the frame is written
    pub staged_after : (s t : Option Story) (framed : List ℕ) → IsSized batch → IsFrame batch framed → WhereTold s (EndsAt path at end batches) → Turns s t (λ old new. (q : List ℕ) → new q ≡ reads_after (wrote path (end + 1) framed) old q)
        → WhereTold t (Staged path at end batches batch)
    staged_after None None framed new is left turns = tt
    staged_after None (Some t) framed new is left turns = absurd turns
    staged_after (Some s) None framed new is left turns = absurd turns
    staged_after (Some s) (Some t) framed new is left turns =
        let file = left.0 in
        let holds = left.2 in
        let front = gated batches in
        let after = overlaid (end + 1) framed file in
        let more = drop (end + 1 + length framed) file in
        let split = whole at file front holds.rest holds.gate holds.stands in
        let size = front_size at end file front holds.rest holds.gate holds.stands left.3 in
        let written : after ≡ (take at file ++ front) ++ holds.gate ∷ (frame batch ++ more) =
        written_behind (take at file ++ front) holds.rest file holds.gate end split size framed ∙ ap (λ (l : List ℕ). (take at file ++ front) ++ holds.gate ∷ (l ++ more)) is.same in
        record {
          file = after;
          there = turns path ∙ update-here (reads s) path (option_map (overlaid (end + 1) framed) (reads s path)) ∙ ap (option_map (overlaid (end + 1) framed)) left.1;
          each = holds.each;
          new = new;
          gate = holds.gate;
          more = more;
          stands = from_place at file front holds.rest after holds.gate holds.gate (frame batch ++ more) holds.stands written;
          closed = holds.closed;
          end_is = left.3;
        }

    -- with the gate open there is a batch more
    opened : (d : Directory) (staged : Staged path at end batches batch d) (x : List ℕ) → x ≡ (take at staged.file ++ gated batches) ++ 1 ∷ (frame batch ++ staged.more) → Holds at (batches ++ batch ∷ []) x
    opened d staged x is =
        let front = gated batches in
        let from : drop at x ≡ front ++ 1 ∷ (frame batch ++ staged.more) = from_place at staged.file front (frame batch ++ staged.more) x staged.gate 1 (frame batch ++ staged.more) staged.stands is in
        record {
          each = each-push batches batch staged.each staged.new;
          gate = 0;
          rest = staged.more;
          stands =
              from
              ∙ ap (λ (l : List ℕ). front ++ 1 ∷ l) (ap (λ (l : List ℕ). l ++ staged.more) (frame_is batch) ∙ append_assoc (sized batch) (0 ∷ []) staged.more)
              ∙ sym (append_assoc front (1 ∷ sized batch) (0 ∷ staged.more))
              ∙ ap (λ (l : List ℕ). l ++ 0 ∷ staged.more) (sym (gated-push batches batch));
          closed = λ is_one. absurd (cc);
        }

    split_staged : (d : Directory) (staged : Staged path at end batches batch d) → staged.file ≡ (take at staged.file ++ gated batches) ++ staged.gate ∷ (frame batch ++ staged.more)
    split_staged d staged = whole at staged.file (gated batches) (frame batch ++ staged.more) staged.gate staged.stands

    size_staged : (d : Directory) (staged : Staged path at end batches batch d) → length (take at staged.file ++ gated batches) ≡ end
    size_staged d staged = front_size at end staged.file (gated batches) (frame batch ++ staged.more) staged.gate staged.stands staged.end_is

    -- a write of the gate leaves the batches with the new one or without it
    may_open : (d : Directory) (staged : Staged path at end batches batch d) (y : Option (List ℕ)) → StepsTo (inl (end, 1)) (Some staged.file) y → Has at batches y ⊎ Has at (batches ++ batch ∷ []) y
    may_open d staged None it = absurd it
    may_open d staged (Some x) torn =
        let front = gated batches in
        let rest = frame batch ++ staged.more in
        let is = torn_byte (take at staged.file ++ front) rest staged.file staged.gate end (split_staged d staged) (size_staged d staged) x torn in
        elim (cases_eq (get_or x end 0) 1) [
          | inl is_open ↦ inr (opened d staged x (is ∙ ap (λ (g : ℕ). (take at staged.file ++ front) ++ g ∷ rest) is_open))
          | inr shut ↦ inl (record { each = staged.each; gate = get_or x end 0; rest = rest; stands = from_place at staged.file front rest x staged.gate (get_or x end 0) rest staged.stands is; closed = shut })
        ]

    may_open_by : (b c d : Directory) → Keeps path at batches b c → Staged path at end batches batch c → Wrote path (inl (end, 1)) c d → MayAppend path at batches batch b d
    may_open_by b c d so_far staged step = record {
      off = off_trans path b c d so_far.off step.off;
      front =
          front_trans at (b path) (c path) (d path) so_far.front
          (step_front at end 1 staged.file (c path) (d path) (omega (arith, staged.end_is)) (in_file at staged.file (gated batches) (frame batch ++ staged.more) staged.gate staged.stands) staged.there step.at);
      file = may_open c staged (d path) (subst (λ (x : Option (List ℕ)). StepsTo (inl (end, 1)) x (d path)) staged.there step.at);
    }

    image_staged : (s : Story) (c : Directory) → Staged path at end batches batch (reads s) → c path ≡ reads s path → Staged path at end batches batch c
    image_staged s c staged same = record { file = staged.file; there = same ∙ staged.there; each = staged.each; new = staged.new; gate = staged.gate; more = staged.more; stands = staged.stands; closed = staged.closed; end_is = staged.end_is }

    pub second_opens : (s : Option Story) → WhereTold s (Staged path at end batches batch) → IsSettled path s → (b c d : Directory) → Keeps path at batches b c → Images s c → Wrote path (inl (end, 1)) c d → MayAppend path at batches batch b d
    second_opens None staged settled b c d so_far it step = absurd it
    second_opens (Some s) staged settled b c d so_far it step = may_open_by b c d so_far (image_staged s c staged (settled c it)) step

    pub second_reads : (r s t : Option Story) → WhereTold s (Staged path at end batches batch) → Turns r s (Keeps path at batches) → Turns s t (Wrote path (inl (end, 1))) → Turns r t (MayAppend path at batches batch)
    second_reads None None None staged so_far step = tt
    second_reads None None (Some t) staged so_far step = absurd step
    second_reads None (Some s) t staged so_far step = absurd so_far
    second_reads (Some r) None t staged so_far step = absurd so_far
    second_reads (Some r) (Some s) None staged so_far step = absurd step
    second_reads (Some r) (Some s) (Some t) staged so_far step = may_open_by (reads r) (reads s) (reads t) so_far staged step

    grown : end ≡ at + length (gated batches) → end + length (frame batch) ≡ at + length (gated (batches ++ batch ∷ []))
    grown end_is = omega (arith, end_is, ap length (gated-push batches batch), length-append (gated batches) (1 ∷ sized batch), frame_size batch)

    -- what the disk reads once the gate is open
    pub opened_after : (s t : Option Story) (framed : List ℕ) → IsFrame batch framed → WhereTold s (Staged path at end batches batch) → Turns s t (λ old new. (q : List ℕ) → new q ≡ reads_after (wrote path end (1 ∷ [])) old q)
        → WhereTold t (EndsAt path at (end + length framed) (batches ++ batch ∷ []))
    opened_after None None framed is staged turns = tt
    opened_after None (Some t) framed is staged turns = absurd turns
    opened_after (Some s) None framed is staged turns = absurd turns
    opened_after (Some s) (Some t) framed is staged turns =
        let after = overlaid end (1 ∷ []) staged.file in (
          after,
          turns path ∙ update-here (reads s) path (option_map (overlaid end (1 ∷ [])) (reads s path)) ∙ ap (option_map (overlaid end (1 ∷ []))) staged.there,
          opened (reads s) staged after (written_byte (take at staged.file ++ gated batches) (frame batch ++ staged.more) staged.file staged.gate end (split_staged (reads s) staged) (size_staged (reads s) staged) 1),
          ap (λ (l : List ℕ). end + length l) is.same ∙ grown staged.end_is,
        )

    pub has_all : (s : Option Story) (last : ℕ) → WhereTold s (EndsAt path at last (batches ++ batch ∷ [])) → IsSettled path s → (b c : Directory) → Images s c → MayAppend path at batches batch b c → Keeps path at (batches ++ batch ∷ []) b c
    has_all None last left settled b c it may = absurd it
    has_all (Some s) last left settled b c it may = record { off = may.off; front = may.front; file = subst (λ (x : Option (List ℕ)). Has at (batches ++ batch ∷ []) x) (sym (settled c it ∙ left.1)) left.2 }

    pub reads_all : (r s : Option Story) (last : ℕ) → WhereTold s (EndsAt path at last (batches ++ batch ∷ [])) → Turns r s (MayAppend path at batches batch) → Turns r s (Keeps path at (batches ++ batch ∷ []))
    reads_all None None last left may = tt
    reads_all None (Some s) last left may = absurd may
    reads_all (Some r) None last left may = absurd may
    reads_all (Some r) (Some s) last left may = record { off = may.off; front = may.front; file = subst (λ (x : Option (List ℕ)). Has at (batches ++ batch ∷ []) x) (sym left.1) left.2 }

    pub keeps_may : (c d : Directory) → Keeps path at batches c d → MayAppend path at batches batch c d
    keeps_may c d it = record { off = it.off; front = it.front; file = inl it.file }

-- A place that is one more, or the last one. There the write has no room, and does nothing.
module _ (path : List ℕ) (end place n : ℕ) (s0 s1 : Option Story) (is : place ≡ min (end + 1) (2 ^ 64 - 1)) (some : 1 ≤ n) (past : 2 ^ 64 ≤ place + n → s1 ≡ s0) where
  pub at_place : (m0 m1 : ℕ) → Carries (Wrote path (inl (place, n))) m0 m1 s0 s1 → Carries (Wrote path (inl (end + 1, n))) m0 m1 s0 s1
  at_place m0 m1 first = elim (cases_lt (end + 1) (2 ^ 64)) [
    | inl fits ↦ let same : place ≡ end + 1 = omega (arith, is, fits) in subst (λ (k : ℕ). Carries (Wrote path (inl (k, n))) m0 m1 s0 s1) same first
    | inr full ↦ stays (Wrote path (inl (end + 1, n))) (wrote_nothing path (inl (end + 1, n))) m0 m1 s0 s1 first.leaves.later (past (omega (arith, is, full, some)))
  ]

  pub at_place_reads : Turns s0 s1 (Wrote path (inl (place, n))) → Turns s0 s1 (Wrote path (inl (end + 1, n)))
  at_place_reads first = elim (cases_lt (end + 1) (2 ^ 64)) [
    | inl fits ↦ let same : place ≡ end + 1 = omega (arith, is, fits) in subst (λ (k : ℕ). Turns s0 s1 (Wrote path (inl (k, n)))) same first
    | inr full ↦ subst (λ (t : Option Story). Turns s0 t (Wrote path (inl (end + 1, n)))) (sym (past (omega (arith, is, full, some)))) (turns_same path (inl (end + 1, n)) s0)
  ]

pub some_bytes : (framed : List ℕ) (batch : List Operation) → IsFrame batch framed → 1 ≤ length framed
some_bytes framed batch is = omega (arith, ap length is.same, frame_size batch)

-- a batch whose frame has room
pub is_sized : (framed : List ℕ) (batch : List Operation) → IsFrame batch framed → length framed < 2 ^ 64 → IsSized batch
is_sized framed batch is fits = record { is_batch = is.is_batch; fits = omega (arith, fits, ap length is.same, frame_size batch, length-append (to_be_bytes w64 (length (batch_bytes batch))) (batch_bytes batch)) }

-- the file still reaches its closed gate
pub gate_after : (path framed : List ℕ) (end place : ℕ) (s t : Option Story) → end ≤ place → WhereTold s (HasGate path end) → Turns s t (λ old new. (q : List ℕ) → new q ≡ reads_after (wrote path place framed) old q) → WhereTold t (HasRoom path end)
gate_after path framed end place None None le gate turns = tt
gate_after path framed end place None (Some t) le gate turns = absurd turns
gate_after path framed end place (Some s) None le gate turns = absurd turns
gate_after path framed end place (Some s) (Some t) le gate turns =
    let file = gate.0 in (
      overlaid place framed file,
      turns path ∙ update-here (reads s) path (option_map (overlaid place framed) (reads s path)) ∙ ap (option_map (overlaid place framed)) gate.1,
      omega (arith, gate.2, le, length-append (take place file ++ framed) (drop (place + length framed) file), length-append (take place file) framed, length-take place file),
    )

overlaid-long : (at : ℕ) (bytes old : List ℕ) → at ≤ length old → (at + length bytes ≤ length (overlaid at bytes old)) × (length old ≤ length (overlaid at bytes old))
overlaid-long at bytes old le =
    let a = length-append (take at old ++ bytes) (drop (at + length bytes) old) in
    let b = length-append (take at old) bytes in
    let c = length-take at old in
    let d = length-drop (at + length bytes) old in
    (omega (arith, a, b, c, d, le), omega (arith, a, b, c, d, le))

-- a write behind the gate makes room for the next gate
pub room_behind : (path framed : List ℕ) (end place : ℕ) (s t : Option Story) → place ≡ end + 1 → WhereTold s (HasGate path end) → Turns s t (λ old new. (q : List ℕ) → new q ≡ reads_after (wrote path place framed) old q) → WhereTold t (HasGate path (end + length framed))
room_behind path framed end place None None is gate turns = tt
room_behind path framed end place None (Some t) is gate turns = absurd turns
room_behind path framed end place (Some s) None is gate turns = absurd turns
room_behind path framed end place (Some s) (Some t) is gate turns =
    let file = gate.0 in
    let long = overlaid-long place framed file (omega (arith, gate.2, is)) in (
      overlaid place framed file,
      turns path ∙ update-here (reads s) path (option_map (overlaid place framed) (reads s path)) ∙ ap (option_map (overlaid place framed)) gate.1,
      omega (arith, long.0, is),
    )

-- and a write in front of it leaves that
pub room_stays : (path bytes : List ℕ) (at end : ℕ) (s t : Option Story) → at ≤ end → WhereTold s (HasGate path end) → Turns s t (λ old new. (q : List ℕ) → new q ≡ reads_after (wrote path at bytes) old q) → WhereTold t (HasGate path end)
room_stays path bytes at end None None le gate turns = tt
room_stays path bytes at end None (Some t) le gate turns = absurd turns
room_stays path bytes at end (Some s) None le gate turns = absurd turns
room_stays path bytes at end (Some s) (Some t) le gate turns =
    let file = gate.0 in
    let long = overlaid-long at bytes file (omega (arith, gate.2, le)) in (
      overlaid at bytes file,
      turns path ∙ update-here (reads s) path (option_map (overlaid at bytes) (reads s path)) ∙ ap (option_map (overlaid at bytes)) gate.1,
      omega (arith, gate.2, long.1),
    )

-- where some batches stand, the file reaches its closed gate
gate_of : (journal : JournalValue) (d : Directory) → StandsSome journal d → HasGate journal.path journal.end d
gate_of journal d stands =
    let left = stands.1 in
    let holds = left.2 in
    let front = gated stands.0 in
    let split = whole journal.at left.0 front holds.rest holds.gate holds.stands in
    let size = front_size journal.at journal.end left.0 front holds.rest holds.gate holds.stands left.3 in
    (left.0, left.1, reaches (take journal.at left.0 ++ front) holds.rest left.0 holds.gate journal.end split size)

pub told_gate : (s : Option Story) (journal : JournalValue) → WhereTold s (StandsSome journal) → WhereTold s (HasGate journal.path journal.end)
told_gate None journal stands = tt
told_gate (Some s) journal stands = gate_of journal (reads s) stands

-- as the code has the path and the end
pub gate_there : (s : Option Story) (journal : JournalValue) (path : List ℕ) (end : ℕ) → path ≡ journal.path → end ≡ journal.end → WhereTold s (HasGate journal.path journal.end) → WhereTold s (HasGate path end)
gate_there s journal path end path_is end_is gate =
    subst (λ (p : List ℕ). WhereTold s (HasGate p end)) (sym path_is) (subst (λ (k : ℕ). WhereTold s (HasGate journal.path k)) (sym end_is) gate)

pub on_ok : {T E P : Type 0} (r : Result T E) → OnOk r P → is_err r ≡ false → P
on_ok (Ok x) p fine = p
on_ok (Err e) p fine = absurd (cc)

pub on_ok_by : {T E P Q S : Type 0} (r : Result T E) → (P → Q → S) → OnOk r P → OnOk r Q → OnOk r S
on_ok_by (Ok x) f p q = f p q
on_ok_by (Err e) f p q = tt

pub on_ok_then : {T E P S : Type 0} (r : Result T E) → (P → S) → OnOk r P → OnOk r S
on_ok_then (Ok x) f p = f p
on_ok_then (Err e) f p = tt
