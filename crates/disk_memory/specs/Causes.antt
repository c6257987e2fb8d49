-- When a call of a disk in memory fails.
use Rattle.std.specs.Prelude.{◌≡◌, ◌⊎◌, ℕ, ◌+◌, ◌<◌, Bool, true, false, List, Option, Result, OnOk, OnErr, IsErr, is_some}
use Rattle.disk_trait.specs.Change.{Change}
use Rattle.disk_trait.specs.Crash.{Event, did, failed}
use Rattle.disk_trait.specs.Story.{Story, happened}
use Rattle.disk_trait.specs.Calls.{last_moment, next_count, HasRoom}
use Rattle.disk_memory.specs.declared.disk.MemoryDisk.{MemoryDisk}
use Rattle.disk_memory.specs.declared.fail.Call.{Call}
use Rattle.disk_memory.specs.Fail.{listed, passed}
use Rattle.disk_memory.specs.Record.{story_when, told}
use Rattle.disk_memory.specs.Shown.{began, content, keeps, moment_of, faults_of, lacked_of, fail_of}

-- what it tells of itself, where it keeps a record
abbrev pub story_of : MemoryDisk → Option Story
story_of m = story_when (keeps m) (began m) (told m.calls)

-- the next call is one of those that fail
abbrev pub IsListed : MemoryDisk → Call → List ℕ → List ℕ → Type 0
IsListed m call from to = listed (moment_of m + 1) call from to (fail_of m) ≡ true

-- A call failed, since it is one of those that fail, or the disk could not grow, or has come to its last moment, or for
-- one reason more.
abbrev pub Cause : MemoryDisk → MemoryDisk → Call → List ℕ → List ℕ → Type 0 → Type 0
Cause old new call from to more = IsListed old call from to ⊎ ((lacked_of new ≡ next_count (lacked_of old)) ⊎ ((moment_of old ≡ last_moment) ⊎ more))

-- the disk keeps no record, and the file isn't there
pub record IsMissing (m : MemoryDisk) (path : List ℕ) : Type 0 where
  pub keep : keeps m ≡ false
  pub there : is_some (content m path) ≡ false

-- the disk keeps no record, and the file isn't there or doesn't reach up to a place
pub record HasNoRoom (m : MemoryDisk) (path : List ℕ) (at : ℕ) : Type 0 where
  pub keep : keeps m ≡ false
  pub room : HasRoom path at (content m) → ⊥

-- A call of a disk in memory: a fault is counted only where it fails, and it fails only for a cause. Those that are to
-- fail do, and each call is counted.
pub record Goes {T E : Type 0} (old new : MemoryDisk) (call : Call) (from to : List ℕ) (result : Result T E) (more : Type 0) : Type 0 where
  pub fine : OnOk result (faults_of new ≡ faults_of old)
  pub cause : OnErr result (Cause old new call from to more)
  pub is_listed : moment_of old < last_moment → IsListed old call from to → IsErr result
  pub counts : moment_of old < last_moment → fail_of new ≡ passed call from to (fail_of old)

-- a call that is to fail and did is noted as this event, unless there was no memory for it
abbrev pub Tells : MemoryDisk → MemoryDisk → Call → List ℕ → List ℕ → Event → Type 0
Tells old new call from to event =
    moment_of old < last_moment → IsListed old call from to → lacked_of new ≡ lacked_of old → lacked_of old < last_moment → story_of new ≡ happened (moment_of old + 1) event (story_of old)
