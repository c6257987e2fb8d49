-- What records do to a directory. `wanted` has each file as the dictionary wants it in the end.
use Rattle.std.specs.Prelude.{◌≡◌, ℕ, Bool, true, false, ◌&&◌, List, [], ◌∷◌, Option, Some, None, is_some, nat_lt}
use Rattle.std.specs.Map.{update}
use Rattle.std.specs.Str.{bytes_eq}
use Rattle.disk_trait.specs.Change.{Directory, unlinked, relinked, is_in}
use Rattle.ddl_log.specs.declared.records.Kind.{Kind}
use Rattle.ddl_log.specs.declared.records.Kind.TheVariants.{DeleteSpace, RenameSpace, WriteSdi}
use Rattle.ddl_log.specs.declared.records.LogRecord.{LogRecord}

-- a file that is there gets the wanted bytes, if it is wanted at all
abbrev pub anew : Option (List ℕ) → Option (List ℕ) → Option (List ℕ)
anew None file = file
anew (Some bytes) None = None
anew (Some bytes) (Some file) = Some bytes

-- what an operation does between these paths
abbrev pub effect_at : Kind → List ℕ → List ℕ → Directory → Directory → Directory
effect_at DeleteSpace old new wanted directory = unlinked old directory
effect_at RenameSpace old new wanted directory = relinked (directory old) old new directory
effect_at WriteSdi old new wanted directory = update bytes_eq directory old (anew (wanted old) (directory old))

abbrev pub effect_of : LogRecord → Directory → Directory → Directory
effect_of item wanted directory = effect_at item.kind item.old_path item.new_path wanted directory

-- what the records do, one after the other
abbrev pub effect : List LogRecord → Directory → Directory → Directory
effect [] wanted directory = directory
effect (item ∷ items) wanted directory = effect items wanted (effect_of item wanted directory)

-- each record has a greater id than the one before it
abbrev pub follows : ℕ → List LogRecord → Bool
follows id [] = true
follows id (item ∷ items) = nat_lt id item.id && follows item.id items

abbrev pub by_id : List LogRecord → Bool
by_id [] = true
by_id (item ∷ items) = follows item.id items

abbrev pub Differs : List ℕ → List ℕ → Type 0
Differs path other = bytes_eq path other ≡ false

-- an operation doesn't name the path
abbrev pub IsBeside : Kind → List ℕ → List ℕ → List ℕ → Type 0
IsBeside DeleteSpace old new path = Differs old path
IsBeside RenameSpace old new path = Differs old path × Differs new path
IsBeside WriteSdi old new path = Differs old path

-- a record doesn't name the path
abbrev pub IsOff : LogRecord → List ℕ → Type 0
IsOff item path = IsBeside item.kind item.old_path item.new_path path

-- no record names the path
abbrev pub IsFree : List ℕ → List LogRecord → Type 0
IsFree path [] = Unit {0}
IsFree path (item ∷ items) = IsOff item path × IsFree path items

-- no record names a path that the operation names
abbrev pub AreBeside : Kind → List ℕ → List ℕ → List LogRecord → Type 0
AreBeside DeleteSpace old new items = IsFree old items
AreBeside RenameSpace old new items = IsFree old items × IsFree new items
AreBeside WriteSdi old new items = IsFree old items

abbrev pub IsApart : LogRecord → List LogRecord → Type 0
IsApart item items = AreBeside item.kind item.old_path item.new_path items

-- where the operation writes anew, both want the same
abbrev pub WantsSame : Kind → List ℕ → Directory → Directory → Type 0
WantsSame DeleteSpace old wanted others = Unit {0}
WantsSame RenameSpace old wanted others = Unit {0}
WantsSame WriteSdi old wanted others = others old ≡ wanted old

abbrev pub Agrees : List LogRecord → Directory → Directory → Type 0
Agrees [] wanted others = Unit {0}
Agrees (item ∷ items) wanted others = WantsSame item.kind item.old_path wanted others × Agrees items wanted others

-- a record is done: it has no effect any more
abbrev pub IsDone : LogRecord → Directory → Directory → Type 0
IsDone item wanted directory = effect_of item wanted directory ≡ directory

-- Within a record's operation: it still has the effect that it had, and what it doesn't name is as before.
pub record IsUnder (item : LogRecord) (wanted old new : Directory) : Type 0 where
  pub effect : effect_of item wanted new ≡ effect_of item wanted old
  pub others : (path : List ℕ) → IsOff item path → new path ≡ old path

-- the paths that are there are these
abbrev pub ArePaths : List (List ℕ) → Directory → Type 0
ArePaths paths directory = (path : List ℕ) → is_in path paths ≡ is_some (directory path)
