-- What holds of the store between two calls.
use Rattle.std.specs.Prelude.{◌≡◌, ℕ, false, List, [], ◌∷◌, Option, Some}
use Rattle.std.specs.List.{AllByRecursion}
use Rattle.disk_trait.specs.Change.{Directory}
use Rattle.disk_trait.specs.Story.{Story, Images}
use Rattle.row_store.specs.Value.{StoreValue}
use Rattle.row_store.specs.OnDisk.{IsOnDisk}
use Rattle.ddl_log.specs.declared.records.LogRecord.{LogRecord}
use Rattle.ddl_log.specs.Effect.{IsOff, IsDone, Differs}
use Rattle.log_rows.specs.Logs.{IsLog}
use Rattle.dict_store_laws.specs.System.{system_path, is_system, IsOrdinary, IsRight}
use Rattle.dict_store_laws.specs.Recovers.{IsOrderly}

-- a path and its bytes
abbrev pub File : Type 0
File = List ℕ × List ℕ

-- What sessions have under way: the records of the log, and the files that these lead to; those of the records that are done; and
-- the files that were made for commits to come.
pub record Work : Type 0 where
  pub items : List LogRecord
  pub wanted : Directory
  pub finished : List LogRecord
  pub made : List File

-- each of the records is done
abbrev pub AreDone : List LogRecord → Directory → Directory → Type 0
AreDone [] wanted directory = Unit {0}
AreDone (item ∷ items) wanted directory = IsDone item wanted directory × AreDone items wanted directory

-- each of the files is there
abbrev pub AreThere : List File → Directory → Type 0
AreThere [] directory = Unit {0}
AreThere (file ∷ files) directory = (directory file.0 ≡ Some file.1) × AreThere files directory

-- none of the files is a system file
abbrev pub AreOwn : List File → Type 0
AreOwn [] = Unit {0}
AreOwn (file ∷ files) = (is_system file.0 ≡ false) × AreOwn files

-- the record names none of the files
abbrev pub NamesNone : LogRecord → List File → Type 0
NamesNone item [] = Unit {0}
NamesNone item (file ∷ files) = IsOff item file.0 × NamesNone item files

-- the path is none of the files'
abbrev pub IsNone : List ℕ → List File → Type 0
IsNone path [] = Unit {0}
IsNone path (file ∷ files) = Differs path file.0 × IsNone path files

-- the work names no system file
pub record IsFit (work : Work) : Type 0 where
  pub orderly : IsOrderly work.items
  pub finished : AllByRecursion IsOrdinary work.finished
  pub made : AreOwn work.made

-- a directory is as far as the work is
pub record IsSoFar (work : Work) (directory : Directory) : Type 0 where
  pub right : IsRight work.items work.wanted directory
  pub done : AreDone work.finished work.wanted directory
  pub there : AreThere work.made directory

-- The disk has the store's rows, whose records are those of the work, and each crash leaves what is as far as the work is.
pub record IsKept (s : Option Story) (store : StoreValue) (work : Work) : Type 0 where
  pub path : store.journal.path ≡ system_path
  pub on : IsOnDisk s store
  pub log : IsLog store.rows work.items
  pub fit : IsFit work
  pub so_far : (image : Directory) → Images s image → IsSoFar work image
