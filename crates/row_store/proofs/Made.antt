-- What a disk reads as a system file is made.
use Rattle.std.proofs.Common.{◌≡◌, inl, inr, ℕ, ◌+◌, Bool, true, false, List, [], ◌++◌, length, Option, Some, None, Result, Ok, Err, refl, sym, ◌∙◌, ap, subst, arith}
use Rattle.std.specs.Option.{option_map, unwrap_or}
use Rattle.std.proofs.Math.Seq.{drop-nil}
use Rattle.std.proofs.lemmas.List.{append-nil}
use Rattle.disk_trait.specs.Change.{Step, made, wrote, overlaid, reads_after}
use Rattle.disk_trait.specs.Crash.{Event, did, failed}
use Rattle.disk_trait.specs.Story.{Story, WhereTold, reads, happened}
use Rattle.disk_trait.specs.Calls.{Acts, Undecided, HasRoom}
use Rattle.disk_trait.specs.Carried.{Off, Turns, Wrote}
use Rattle.disk_trait.proofs.Paths.{update-here, update-off}
use Rattle.row_journal.specs.Contents.{Holds}
use Rattle.row_journal.specs.Value.{JournalValue, EndsAt, Stands}
use Rattle.row_store.specs.Header.{empty_file}
use Rattle.row_store.specs.Making.{IsMade}

-- ---- a create

created : (s : Option Story) (moment : ℕ) (path : List ℕ) → WhereTold s (λ d. d path ≡ None) → Turns s (happened moment (did (made path)) s) (IsMade path [])
created None moment path free = tt
created (Some s) moment path free = record {
  off = λ q apart. update-off (reads s) path (Some (unwrap_or (reads s path) [])) q apart;
  file = update-here (reads s) path (Some (unwrap_or (reads s path) [])) ∙ ap (λ (o : Option (List ℕ)). Some (unwrap_or o [])) free;
}

pub is_created : (before : ℕ) (old new : Option Story) (path : List ℕ) → WhereTold old (λ d. d path ≡ None) → new ≡ happened (before + 1) (did (made path)) old → Turns old new (IsMade path [])
is_created before old new path free is = subst (λ (t : Option Story). Turns old t (IsMade path [])) (sym is) (created old (before + 1) path free)

made_off : (s : Option Story) (moment : ℕ) (path : List ℕ) → Turns s (happened moment (did (made path)) s) (Off path)
made_off None moment path = tt
made_off (Some s) moment path = λ q apart. update-off (reads s) path (Some (unwrap_or (reads s path) [])) q apart

same_off : (s : Option Story) (path : List ℕ) → Turns s s (Off path)
same_off None path = tt
same_off (Some s) path = λ q apart. refl

failed_off : (s : Option Story) (moment : ℕ) (path : List ℕ) (reads_so : Bool) → Turns s (happened moment (failed (made path) reads_so) s) (Off path)
failed_off None moment path reads_so = tt
failed_off (Some s) moment path true = λ q apart. update-off (reads s) path (Some (unwrap_or (reads s path) [])) q apart
failed_off (Some s) moment path false = λ q apart. refl

-- whatever it answered
pub create_off : {T E : Type 0} (before : ℕ) (old new : Option Story) (result : Result T E) (path : List ℕ) → Acts before old new result (made path) (Undecided (made path)) → Turns old new (Off path)
create_off before old new (Ok v) path acts = subst (λ (t : Option Story). Turns old t (Off path)) (sym acts.ok) (made_off old (before + 1) path)
create_off before old new (Err e) path acts = elim acts.err [
  | inl is ↦ subst (λ (t : Option Story). Turns old t (Off path)) (sym is) (same_off old path)
  | inr it ↦ subst (λ (t : Option Story). Turns old t (Off path)) (sym (it.3 ∙ ap (λ (v : Event). happened (before + 1) v old) it.2.1)) (failed_off old (before + 1) path it.2.0)
]

-- ---- a write into an empty file

pub room_at_front : (s : Option Story) (path : List ℕ) → WhereTold s (λ d. d path ≡ Some []) → WhereTold s (HasRoom path 0)
room_at_front None path there = tt
room_at_front (Some s) path there = ([], there, omega arith)

pub is_written : (s t : Option Story) (path bytes : List ℕ) → WhereTold s (λ d. d path ≡ Some []) → Turns s t (λ old new. (q : List ℕ) → new q ≡ reads_after (wrote path 0 bytes) old q) → Turns s t (IsMade path bytes)
is_written None None path bytes there turns = tt
is_written None (Some t) path bytes there turns = absurd turns
is_written (Some s) None path bytes there turns = absurd turns
is_written (Some s) (Some t) path bytes there turns = record {
  off = λ q apart. turns q ∙ update-off (reads s) path (option_map (overlaid 0 bytes) (reads s path)) q apart;
  file = turns path ∙ update-here (reads s) path (option_map (overlaid 0 bytes) (reads s path)) ∙ ap (option_map (overlaid 0 bytes)) there ∙ ap Some (alone bytes);
}
  where
    alone : (bytes : List ℕ) → overlaid 0 bytes [] ≡ bytes
    alone bytes = ap (λ (l : List ℕ). bytes ++ l) (drop-nil (0 + length bytes)) ∙ append-nil bytes

pub wrote_off : (old new : Option Story) (path : List ℕ) (step : Step) → Turns old new (Wrote path step) → Turns old new (Off path)
wrote_off None None path step turns = tt
wrote_off None (Some t) path step turns = absurd turns
wrote_off (Some s) None path step turns = absurd turns
wrote_off (Some s) (Some t) path step turns = turns.off

-- ---- one after the other

pub made_there : (old new : Option Story) (path bytes : List ℕ) → Turns old new (IsMade path bytes) → WhereTold new (λ d. d path ≡ Some bytes)
made_there None None path bytes turns = tt
made_there None (Some t) path bytes turns = absurd turns
made_there (Some s) None path bytes turns = absurd turns
made_there (Some s) (Some t) path bytes turns = turns.file

-- ---- what such a file is

pub holds_none : Holds 64 [] empty_file
holds_none = record { each = tt; gate = 0; rest = []; stands = refl; closed = λ e. cc }

pub stands_empty : (s : Option Story) (path : List ℕ) → WhereTold s (λ d. d path ≡ Some empty_file) → WhereTold s (EndsAt path 64 64 [])
stands_empty None path there = tt
stands_empty (Some s) path there = (empty_file, there, holds_none, refl)

pub stands_made : (old new : Option Story) (journal : JournalValue) (text path : List ℕ) → journal ≡ record { path = text; at = 64; end = 64; fault = None } → text ≡ path → Turns old new (IsMade path empty_file) → WhereTold new (Stands journal [])
stands_made old new journal text path is same turns =
    let journal_is : journal ≡ record { path = path; at = 64; end = 64; fault = None } = is ∙ ap (λ (p : List ℕ). record { path = p; at = 64; end = 64; fault = None }) same in
    subst (λ (j : JournalValue). WhereTold new (Stands j [])) (sym journal_is) (stands_empty new path (made_there old new path empty_file turns))
