-- What the calls of a disk say.
use Rattle.std.specs.Prelude.{◌≡◌, ℕ, ◌+◌, ◌-◌, ◌^◌, ◌<◌, ◌≤◌, min, Bool, List, length, take, drop, Option, Some, ◌⊎◌, Result, OnOk, OnErr, is_some}
use Rattle.std.specs.Cmp.Lexicographic.{slice_cmp}
use Rattle.std.specs.Ordering.{nat_cmp}
use Rattle.std.specs.List.Sorted.{IsStrictlySortedBy}
use Rattle.disk_trait.specs.Change.{Directory, Step, Change, tried, spoiled, is_in}
use Rattle.disk_trait.specs.Crash.{Event, did, failed, Takes}
use Rattle.disk_trait.specs.Story.{Story, WhereTold, happened}

-- at this moment each call fails
abbrev pub last_moment : ℕ
last_moment = 2 ^ 64 - 1

-- one more, where a number of 64 bits has room for it
abbrev pub next_count : ℕ → ℕ
next_count n = min (n + 1) last_moment

-- a count has risen, or stands at its end
abbrev pub Rose : ℕ → ℕ → Type 0
Rose before now = next_count before ≤ now

-- The moment goes on by one, but for the last, at which the call fails. The count of faults never falls, and has risen
-- where the call failed.
pub record Passes (before now faults_before faults_now : ℕ) (failed : Type 0) : Type 0 where
  pub onward : before ≤ now
  pub moment : now ≡ next_count before
  pub last : before ≡ last_moment → failed
  pub later : faults_before ≤ faults_now
  pub cause : failed → Rose faults_before faults_now

-- A call that changes the disk. At Ok the change was done; at Err nothing happened, or one of the events that such a
-- failure may be.
pub record Acts {T E : Type 0} (before : ℕ) (old new : Option Story) (result : Result T E) (change : Change) (Fails : Event → Type 0) : Type 0 where
  pub ok : OnOk result (new ≡ happened (before + 1) (did change) old)
  pub err : OnErr result ((new ≡ old) ⊎ ((event : Event) × (before < last_moment) × Fails event × (new ≡ happened (before + 1) event old)))

-- A create, remove or rename that failed is undecided; the disk reads as before or as after it.
abbrev pub Undecided : Change → Event → Type 0
Undecided change event = (reads_so : Bool) × (event ≡ failed change reads_so)

-- A write or a cut that failed. The file reads as before, or as some bytes that a crash in the call might have left; what
-- was to be changed counts as changed.
abbrev pub Spoils : Option Story → List ℕ → Step → Event → Type 0
Spoils story path step event =
    (event ≡ did (tried path step))
    ⊎ ((bytes : List ℕ) × WhereTold story (λ d. (old : List ℕ) × (d path ≡ Some old) × Takes step old bytes) × (event ≡ did (spoiled path step bytes)))

-- a sync that failed changed nothing
abbrev pub NoEvent : Event → Type 0
NoEvent event = ⊥

-- all the paths, each once, in byte order
pub record Lists (paths : List (List ℕ)) (directory : Directory) : Type 0 where
  pub sorted : IsStrictlySortedBy (slice_cmp nat_cmp) paths
  pub each : (path : List ℕ) → is_in path paths ≡ is_some (directory path)

-- as many bytes as stand from a place and fit, at the front of `new`; the rest of it is as before
pub record Reads (bytes : List ℕ) (at : ℕ) (old new : List ℕ) (n : ℕ) : Type 0 where
  pub count : n ≡ min (length old) (length bytes - at)
  pub taken : take n new ≡ take n (drop at bytes)
  pub rest : drop n new ≡ drop n old

-- a file is there
abbrev pub IsThere : List ℕ → Directory → Type 0
IsThere path directory = (bytes : List ℕ) × (directory path ≡ Some bytes)

-- a file is there and reaches up to a place
abbrev pub HasRoom : List ℕ → ℕ → Directory → Type 0
HasRoom path at directory = (bytes : List ℕ) × (directory path ≡ Some bytes) × (at ≤ length bytes)
