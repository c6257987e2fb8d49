-- What a disk in memory shows of itself.
use Rattle.std.specs.Prelude.{◌≡◌, ◌⊎◌, ℕ, nat_le, Bool, List, [], filter}
use Rattle.disk_trait.specs.Change.{Directory}
use Rattle.disk_trait.specs.Crash.{Events, state, Image}
use Rattle.disk_trait.specs.Calls.{next_count}
use Rattle.disk_memory.specs.declared.disk.MemoryDisk.{MemoryDisk}
use Rattle.disk_memory.specs.declared.fail.FailAt.{FailAt}
use Rattle.disk_memory.specs.Record.{directory_of, told}
use Rattle.disk_memory.specs.Replay.{IsLike, synced_of}

-- the directory that it began with
abbrev pub began : MemoryDisk → Directory
began m = directory_of m.start

-- what it reads
abbrev pub content : MemoryDisk → Directory
content m = directory_of m.files

-- what its calls did since it began, the newest first, where it keeps a record
abbrev pub events : MemoryDisk → Events
events m = told m.calls

-- whether it keeps a record, and so tells its content
abbrev pub keeps : MemoryDisk → Bool
keeps m = m.calls.keep

abbrev pub moment_of : MemoryDisk → ℕ
moment_of m = m.clock.moment

abbrev pub faults_of : MemoryDisk → ℕ
faults_of m = m.clock.faults

-- how often it could not grow
abbrev pub lacked_of : MemoryDisk → ℕ
lacked_of m = m.clock.lacked

-- the calls that are to fail
abbrev pub fail_of : MemoryDisk → List FailAt
fail_of m = m.clock.fail.items

-- it has had no call, and a crash leaves just what it reads
pub record IsNew (m : MemoryDisk) : Type 0 where
  pub events : events m ≡ []
  pub reads : IsLike (content m) (began m)
  pub moment : moment_of m ≡ 0
  pub faults : faults_of m ≡ 0
  pub lacked : lacked_of m ≡ 0

-- the events up to a moment
abbrev pub until : ℕ → Events → Events
until last events = filter (λ e. nat_le e.0 last) events

-- What is left of a disk that is stopped after so many calls and before the end of the next. It may be left by a crash
-- before the next call or after it. Choice 0 leaves each file as its last sync did, and the next call undone; choice 1
-- leaves all done.
pub record Leaves (m : MemoryDisk) (moment choice : ℕ) (left : Directory) : Type 0 where
  pub image : Image (began m) (until moment (events m)) left ⊎ Image (began m) (until (next_count moment) (events m)) left
  pub synced : choice ≡ 0 → (path : List ℕ) → left path ≡ synced_of ((state (began m) (until moment (events m))).files path)
  pub done : choice ≡ 1 → IsLike left (state (began m) (until (next_count moment) (events m))).reads
