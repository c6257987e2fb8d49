-- What a disk in memory keeps of its calls, and the directory that its files are.
use Rattle.std.specs.Prelude.{◌≡◌, ℕ, Bool, true, false, nat_le, if◌then◌else◌, List, [], ◌∷◌, map, reverse, Option, Some, None, Vec, String}
use Rattle.std.specs.Option.{option_map}
use Rattle.std.proofs.Common.{inl, inr}
use Rattle.std.specs.BTreeMap.{BTreeMap, get_by_text}
use Rattle.std.specs.declared.alloc.Global.{Global}
use Rattle.disk_trait.specs.Change.{Directory, Change, made, removed, moved, wrote, cut, tried, settled}
use Rattle.disk_trait.specs.Crash.{Events, Event, did, failed}
use Rattle.disk_trait.specs.Story.{Story}
use Rattle.disk_memory.specs.declared.record.Did.{Did}
use Rattle.disk_memory.specs.declared.record.Did.TheVariants.{Made, Removed, Moved, Wrote, Cut, TriedWrite, TriedCut, Settled}
use Rattle.disk_memory.specs.declared.record.Entry.{Entry}
use Rattle.disk_memory.specs.declared.record.Record.{Record}

abbrev pub change_of : Did → Change
change_of (Made path) = made path
change_of (Removed path) = removed path
change_of (Moved from to) = moved from to
change_of (Wrote path at bytes) = wrote path at bytes.items
change_of (Cut path size) = cut path size
change_of (TriedWrite path at size) = tried path (inl (at, size))
change_of (TriedCut path size) = tried path (inr size)
change_of (Settled path) = settled path

abbrev pub event_when : Bool → Change → Event
event_when true change = failed change false
event_when false change = did change

abbrev pub event_of : Entry → ℕ × Event
event_of entry = (entry.moment, event_when entry.undecided (change_of entry.call))

-- the newest first
abbrev pub events_of : List Entry → Events
events_of entries = reverse (map event_of entries)

abbrev pub directory_of : BTreeMap (String Global) (Vec ℕ Global) → Directory
directory_of files path = option_map (λ v. v.items) (get_by_text files path)

-- with the event of an entry, where it is not after a moment
abbrev pub with_event : ℕ → Entry → Events → Events
with_event last entry events = if nat_le entry.moment last then event_of entry ∷ events else events

-- what a record tells
abbrev pub told : Record → Events
told r = events_of r.entries.items

-- with one more event, where a record is kept
abbrev pub noted : Bool → ℕ × Event → Events → Events
noted true event events = event ∷ events
noted false event events = events

-- what a disk tells that keeps a record or not
abbrev pub story_when : Bool → Directory → Events → Option Story
story_when true start events = Some (record { start = start; events = events })
story_when false start events = None

-- one more event was noted, where a record is kept
pub record Notes (old new : Record) (event : ℕ × Event) : Type 0 where
  pub keep : new.keep ≡ old.keep
  pub told : told new ≡ noted old.keep event (told old)

-- the record tells the same
pub record IsSame (old new : Record) : Type 0 where
  pub keep : new.keep ≡ old.keep
  pub told : told new ≡ told old
