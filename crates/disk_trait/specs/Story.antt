-- What a disk tells of itself, and what a crash may leave of it.
use Rattle.std.specs.Prelude.{ℕ, ◌∷◌, Option, Some, None}
use Rattle.disk_trait.specs.Change.{Directory}
use Rattle.disk_trait.specs.Crash.{Events, Event, state, Image, ImageSince, IsSound}

-- a directory of which a crash left just what it reads, and the calls since that had an effect
pub record Story : Type 0 where
  pub start : Directory
  pub events : Events

-- what the disk reads now
abbrev pub reads : Story → Directory
reads s = (state s.start s.events).reads

-- the story with one more call, which made that moment
abbrev pub happened : ℕ → Event → Option Story → Option Story
happened moment event None = None
happened moment event (Some s) = Some (record { start = s.start; events = (moment, event) ∷ s.events })

-- P of what the disk reads, where it tells it
abbrev pub WhereTold : Option Story → (Directory → Type 0) → Type 0
WhereTold None P = Unit {0}
WhereTold (Some s) P = P (reads s)

-- what a crash now may leave; where the disk tells no content, nothing is said
abbrev pub Images : Option Story → Directory → Type 0
Images None image = ⊥
Images (Some s) image = Image s.start s.events image

-- what a crash at some moment from t on may have left
abbrev pub Since : Option Story → ℕ → Directory → Type 0
Since None t image = ⊥
Since (Some s) t image = ImageSince s.start s.events t image

-- what the disk reads may be left, and no call was later than now
abbrev pub IsSoundStory : Option Story → ℕ → Type 0
IsSoundStory None now = Unit {0}
IsSoundStory (Some s) now = IsSound s.start s.events now
