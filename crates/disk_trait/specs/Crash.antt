-- What a crash may leave.
use Rattle.std.specs.Prelude.{◌≡◌, ℕ, ◌+◌, ◌<◌, ◌≤◌, max, min, Bool, true, false, ◌&&◌, ◌||◌, not, List, [], ◌∷◌, length, take, slice_index, filter, Option, Some, None, ◌⊎◌, IsTrue}
use Rattle.std.specs.Option.{option_map}
use Rattle.std.specs.List.{list_any}
use Rattle.std.proofs.Common.{inl, inr}
use Rattle.disk_trait.specs.Change.{Directory, Step, Loose, Files, clean, Change, reads_after, files_after, names, is_in, share}

-- after a write of n bytes that a crash cuts short: any bytes in the range and past the old end, the same elsewhere
pub record Torn (at n : ℕ) (old new : List ℕ) : Type 0 where
  pub no_shorter : length old ≤ length new
  pub no_longer : length new ≤ max (length old) (at + n)
  pub below : (i : ℕ) → i < length old → i < at → slice_index new i ≡ slice_index old i
  pub above : (i : ℕ) → i < length old → at + n ≤ i → slice_index new i ≡ slice_index old i

-- after a cut: some size in between, the same below it
pub record CutShort (size : ℕ) (old new : List ℕ) : Type 0 where
  pub no_shorter : min size (length old) ≤ length new
  pub front : new ≡ take (length new) old

abbrev pub Takes : Step → List ℕ → List ℕ → Type 0
Takes (inl range) old new = Torn range.0 range.1 old new
Takes (inr size) old new = CutShort size old new

-- from what was synced, through the steps since, of which the newest comes first
abbrev pub Reaches : List ℕ → List Step → List ℕ → Type 0
Reaches synced [] bytes = bytes ≡ synced
Reaches synced (step ∷ earlier) bytes = (before : List ℕ) × Reaches synced earlier before × Takes step before bytes

-- what a crash may leave of a file, or of none
abbrev pub MayLeave : Option Loose → Option (List ℕ) → Type 0
MayLeave None None = Unit {0}
MayLeave None (Some bytes) = ⊥
MayLeave (Some file) None = ⊥
MayLeave (Some file) (Some bytes) = Reaches file.synced file.steps bytes

-- A call that changed the disk, or that failed and is undecided; the flag says whether the disk reads as after it.
pub data Event : Type 0 where
  did : Change → Event
  failed : Change → Bool → Event

-- the calls with their moments, the newest first
abbrev pub Events : Type 0
Events = List (ℕ × Event)

pub record State : Type 0 where
  pub reads : Directory
  pub files : Files
  -- the paths of each failed call that is undecided
  pub undecided : List (List (List ℕ))

-- the paths that a call decides: its own, and those of each undecided call that names one of them
abbrev pub decides : Change → List (List (List ℕ)) → List ℕ → Bool
decides change undecided path = is_in path (names change) || list_any (λ paths. share paths (names change) && is_in path paths) undecided

abbrev pub after : Event → State → State
after (did change) s = record {
  reads = reads_after change s.reads;
  files = files_after change s.reads s.files;
  undecided = filter (λ paths. not (share paths (names change))) s.undecided;
}
after (failed change true) s = record {
  reads = reads_after change s.reads;
  files = files_after change s.reads s.files;
  undecided = names change ∷ s.undecided;
}
after (failed change false) s = record { reads = s.reads; files = s.files; undecided = names change ∷ s.undecided }

-- from a directory that is on the disk as it reads
abbrev pub state : Directory → Events → State
state start [] = record { reads = start; files = λ path. option_map clean (start path); undecided = [] }
state start (event ∷ events) = after event.1 (state start events)

-- What may lie on the disk. A failed call was done or not, until a call decides its paths.
abbrev pub MayLie : Directory → Events → Files → Type 0
MayLie start [] files = (path : List ℕ) → files path ≡ option_map clean (start path)
MayLie start ((moment, did change) ∷ events) files =
    let s = state start events in
    (old : Files) × MayLie start events old
    × ((path : List ℕ) → IsTrue (decides change s.undecided path) → old path ≡ s.files path)
    × ((path : List ℕ) → files path ≡ files_after change s.reads old path)
MayLie start ((moment, failed change reads_so) ∷ events) files =
    let s = state start events in
    (old : Files) × MayLie start events old
    × (((path : List ℕ) → files path ≡ old path) ⊎ ((path : List ℕ) → files path ≡ files_after change s.reads old path))

-- what a crash now may leave
abbrev pub Image : Directory → Events → Directory → Type 0
Image start events image = (files : Files) × MayLie start events files × ((path : List ℕ) → MayLeave (files path) (image path))

-- what a crash at some moment from t on may have left, during a call or between two
abbrev pub ImageSince : Directory → Events → ℕ → Directory → Type 0
ImageSince start [] t image = Image start [] image
ImageSince start (event ∷ events) t image = Image start (event ∷ events) image ⊎ ((t < event.0) × ImageSince start events t image)

-- the moment of the last event
abbrev pub last_event : Events → ℕ
last_event [] = 0
last_event (event ∷ events) = event.0

-- what the disk reads may lie on it, and the last event isn't later than now
pub record IsSound (start : Directory) (events : Events) (now : ℕ) : Type 0 where
  pub current : last_event events ≤ now
  pub stands : (path : List ℕ) → MayLeave ((state start events).files path) ((state start events).reads path)
