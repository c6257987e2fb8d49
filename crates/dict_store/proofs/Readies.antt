-- The test of a store that may commit, as a fact, and how it stays.
use Rattle.std.proofs.Common.{◌≡◌, ℕ, ◌+◌, ◌≤◌, true, false, List, length, Option, Some, None, is_none, refl, sym, ◌∙◌, ap, subst}
use Rattle.std.proofs.lemmas.Bool.{and_parts, and_from, leb-true, le-leb}
use Rattle.disk_trait.specs.Change.{Directory}
use Rattle.disk_trait.specs.Story.{Story, WhereTold, reads}
use Rattle.disk_trait.specs.Carried.{Off, Turns}
use Rattle.row_journal.specs.Value.{JournalValue}
use Rattle.row_journal.specs.Append.{HasGate}
use Rattle.ddl_log.specs.declared.records.Kind.{Kind}
use Rattle.ddl_log.specs.declared.records.Kind.TheVariants.{DeleteSpace, RenameSpace, WriteSdi}
use Rattle.ddl_log.specs.declared.records.LogRecord.{LogRecord}
use Rattle.ddl_log.proofs.Effects.{is_under}
use Rattle.post_ddl.specs.Replays.{Does, HasBytes, IsGiven}
use Rattle.dict_store_laws.specs.System.{system_path, is_system, IsOrdinary}
use Rattle.dict_store_laws.proofs.Stripped.{system_is, system_differs, off_system}
use Rattle.dict_store.specs.Ready.{reaches, is_gated, is_ready}

reach : (file : Option (List ℕ)) (end : ℕ) → reaches file end ≡ true → (bytes : List ℕ) × (file ≡ Some bytes) × (end + 1 ≤ length bytes)
reach None end it = absurd cc
reach (Some bytes) end it = (bytes, refl, leb-true (end + 1) (length bytes) it)

gate_of : (s : Option Story) (path : List ℕ) (end : ℕ) → is_gated s path end ≡ true → WhereTold s (HasGate path end)
gate_of None path end it = tt
gate_of (Some s) path end it = reach (reads s path) end it

gated : (s : Option Story) (path : List ℕ) (end : ℕ) → WhereTold s (HasGate path end) → is_gated s path end ≡ true
gated None path end it = refl
gated (Some s) path end it = ap (λ (x : Option (List ℕ)). reaches x end) it.1 ∙ le-leb (end + 1) (length it.0) it.2

none_is : (fault : Option ℕ) → is_none fault ≡ true → fault ≡ None
none_is None it = refl
none_is (Some n) it = absurd cc

-- a store that isn't halted may commit
pub may_commit : (halted : Option ℕ) (s : Option Story) (journal : JournalValue) → halted ≡ None → is_ready halted s journal ≡ true → (journal.fault ≡ None) × WhereTold s (HasGate journal.path journal.end)
may_commit None s journal is it = let parts = and_parts (is_none journal.fault) (is_gated s journal.path journal.end) it in (none_is journal.fault parts.0, gate_of s journal.path journal.end parts.1)
may_commit (Some n) s journal is it = absurd cc

pub ready : (s : Option Story) (journal : JournalValue) → journal.fault ≡ None → WhereTold s (HasGate journal.path journal.end) → is_ready None s journal ≡ true
ready s journal fresh gate = and_from (is_none journal.fault) (is_gated s journal.path journal.end) (ap is_none fresh) (gated s journal.path journal.end gate)

-- ## A change of other files

gated_same : (s t : Option Story) (path : List ℕ) (end : ℕ) (Q : Directory → Directory → Type 0) → ((d e : Directory) → Q d e → e path ≡ d path) → Turns s t Q → is_gated s path end ≡ true → is_gated t path end ≡ true
gated_same None None path end Q same turns it = it
gated_same None (Some t) path end Q same turns it = absurd turns
gated_same (Some s) None path end Q same turns it = absurd turns
gated_same (Some s) (Some t) path end Q same turns it = ap (λ (x : Option (List ℕ)). reaches x end) (same (reads s) (reads t) turns) ∙ it

ready_same : (halted : Option ℕ) (s t : Option Story) (journal : JournalValue) (Q : Directory → Directory → Type 0) → ((d e : Directory) → Q d e → e journal.path ≡ d journal.path) → Turns s t Q
    → is_ready halted s journal ≡ true → is_ready halted t journal ≡ true
ready_same None s t journal Q same turns it =
    let parts = and_parts (is_none journal.fault) (is_gated s journal.path journal.end) it in
    and_from (is_none journal.fault) (is_gated t journal.path journal.end) parts.0 (gated_same s t journal.path journal.end Q same turns parts.1)
ready_same (Some n) s t journal Q same turns it = refl

pub ready_off : (halted : Option ℕ) (s t : Option Story) (journal : JournalValue) (other : List ℕ) → journal.path ≡ system_path → is_system other ≡ false → Turns s t (Off other) → is_ready halted s journal ≡ true → is_ready halted t journal ≡ true
ready_off halted s t journal other is own turns it =
    ready_same halted s t journal (Off other) (λ d e off. subst (λ (p : List ℕ). e p ≡ d p) (sym is) (off system_path (system_differs other system_path own system_is))) turns it

given_at : (kind : Kind) (path bytes : List ℕ) → IsGiven kind path bytes (λ q. Some bytes)
given_at DeleteSpace path bytes = tt
given_at RenameSpace path bytes = tt
given_at WriteSdi path bytes = refl

-- some files want these bytes
some_given : (item : LogRecord) (bytes : List ℕ) → HasBytes item bytes (λ q. Some bytes)
some_given item bytes = given_at item.kind item.old_path bytes

-- a record's operation leaves the system file ready
pub ready_does : (halted : Option ℕ) (s t : Option Story) (journal : JournalValue) (item : LogRecord) (bytes : List ℕ) → journal.path ≡ system_path → IsOrdinary item
    → ((wanted : Directory) → HasBytes item bytes wanted → Turns s t (Does item wanted)) → is_ready halted s journal ≡ true → is_ready halted t journal ≡ true
ready_does halted s t journal item bytes is own reads_so it =
    let wanted : Directory = λ q. Some bytes in
    ready_same halted s t journal (Does item wanted)
    (λ d e does. subst (λ (p : List ℕ). e p ≡ d p) (sym is) ((is_under item wanted d e does).others system_path (off_system item system_path own system_is)))
    (reads_so wanted (some_given item bytes)) it
