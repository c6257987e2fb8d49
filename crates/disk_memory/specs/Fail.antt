-- Which calls of a disk in memory fail.
use Rattle.std.specs.Prelude.{◌≡◌, ◌==◌, ℕ, ◌+◌, ◌-◌, ◌<◌, Bool, true, false, ◌&&◌, ◌||◌, if◌then◌else◌, List, map}
use Rattle.std.specs.Str.{bytes_eq}
use Rattle.std.specs.List.{list_any}
use Rattle.disk_trait.specs.Calls.{last_moment, next_count}
use Rattle.disk_memory.specs.declared.fail.Call.{Call}
use Rattle.disk_memory.specs.declared.fail.Call.TheVariants.{List as ListCall, Size, ReadAt, Create, Remove, Rename, WriteAt, Cut, Sync}
use Rattle.disk_memory.specs.declared.fail.FailAt.{FailAt}
use Rattle.disk_memory.specs.declared.fail.FailAt.TheVariants.{Call as AtCall, On}
use Rattle.disk_memory.specs.declared.clock.Turn.{Turn}
use Rattle.disk_memory.specs.declared.clock.Turn.TheVariants.{Over, Listed, Open}
use Rattle.disk_memory.specs.declared.clock.Clock.{Clock}

abbrev pub same_call : Call → Call → Bool
same_call ListCall ListCall = true
same_call Size Size = true
same_call ReadAt ReadAt = true
same_call Create Create = true
same_call Remove Remove = true
same_call Rename Rename = true
same_call WriteAt WriteAt = true
same_call Cut Cut = true
same_call Sync Sync = true
same_call _ _ = false

-- a call that names these paths, both the same where it names one, is of a kind and on a path
abbrev pub is_on : Call → List ℕ → Call → List ℕ → List ℕ → Bool
is_on wanted path call from to = same_call wanted call && (same_call call ListCall || (bytes_eq path from || bytes_eq path to))

-- a call, which makes that moment, is the one that fails
abbrev pub names : FailAt → ℕ → Call → List ℕ → List ℕ → Bool
names (AtCall number) moment call from to = number == moment
names (On wanted path nth) moment call from to = is_on wanted path call from to && (nth == 1)

-- what is left to count after a call
abbrev pub counted : FailAt → Call → List ℕ → List ℕ → FailAt
counted (AtCall number) call from to = AtCall number
counted (On wanted path nth) call from to = On wanted path (if is_on wanted path call from to then nth - 1 else nth)

-- a call is one of those that fail
abbrev pub listed : ℕ → Call → List ℕ → List ℕ → List FailAt → Bool
listed moment call from to fail = list_any (λ at. names at moment call from to) fail

-- the list after a call
abbrev pub passed : Call → List ℕ → List ℕ → List FailAt → List FailAt
passed call from to fail = map (λ at. counted at call from to) fail

-- a call at the last moment
pub record EndsHere (old new : Clock) : Type 0 where
  pub last : old.moment ≡ last_moment
  pub faults : new.faults ≡ next_count old.faults
  pub fail : new.fail.items ≡ old.fail.items

-- a call that was one of those that fail
pub record FailsHere (old new : Clock) (call : Call) (from to : List ℕ) : Type 0 where
  pub before : old.moment < last_moment
  pub is_listed : listed (old.moment + 1) call from to old.fail.items ≡ true
  pub faults : new.faults ≡ next_count old.faults
  pub fail : new.fail.items ≡ passed call from to old.fail.items

-- a call that was none of them
pub record GoesOn (old new : Clock) (call : Call) (from to : List ℕ) : Type 0 where
  pub before : old.moment < last_moment
  pub is_listed : listed (old.moment + 1) call from to old.fail.items ≡ false
  pub faults : new.faults ≡ old.faults
  pub fail : new.fail.items ≡ passed call from to old.fail.items

-- the beginning of a call, by what becomes of it
abbrev pub Begins : Clock → Clock → Call → List ℕ → List ℕ → Turn → Type 0
Begins old new call from to Over = EndsHere old new
Begins old new call from to Listed = FailsHere old new call from to
Begins old new call from to Open = GoesOn old new call from to
