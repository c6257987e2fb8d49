-- A store that isn't halted may commit: no append has failed, and its file has a gate where the journal ends.
use Rattle.std.specs.Prelude.{ℕ, ◌+◌, nat_le, Bool, true, false, ◌&&◌, List, length, Option, Some, None, is_none}
use Rattle.disk_trait.specs.Story.{Story, reads}
use Rattle.row_journal.specs.Value.{JournalValue}

abbrev pub reaches : Option (List ℕ) → ℕ → Bool
reaches None end = false
reaches (Some file) end = nat_le (end + 1) (length file)

abbrev pub is_gated : Option Story → List ℕ → ℕ → Bool
is_gated None path end = true
is_gated (Some s) path end = reaches (reads s path) end

abbrev pub is_ready : Option ℕ → Option Story → JournalValue → Bool
is_ready None s journal = is_none journal.fault && is_gated s journal.path journal.end
is_ready (Some count) s journal = true
