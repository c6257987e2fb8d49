-- The catalog that a directory stands for.
use Rattle.std.specs.Prelude.{◌≡◌, ◌⊎◌, ℕ, List, [], ◌∷◌}
use Rattle.std.specs.List.{AllByRecursion}
use Rattle.disk_trait.specs.Change.{Directory}
use Rattle.row_batch.specs.Rows.{Rows}
use Rattle.row_store.specs.OnDisk.{HasRows}
use Rattle.ddl_log.specs.declared.records.Kind.{Kind}
use Rattle.ddl_log.specs.declared.records.Kind.TheVariants.{DeleteSpace, RenameSpace, WriteSdi}
use Rattle.ddl_log.specs.declared.records.LogRecord.{LogRecord}
use Rattle.ddl_log.specs.Effect.{IsFree}
use Rattle.log_rows.specs.Logs.{IsLog}
use Rattle.dict_store_laws.specs.System.{system_path, IsOrdinary, IsRight, IsNew}

-- none of the later records names the file, if it is one that is written anew
abbrev pub IsLastAt : Kind → List ℕ → List LogRecord → Type 0
IsLastAt DeleteSpace path later = Unit {0}
IsLastAt RenameSpace path later = Unit {0}
IsLastAt WriteSdi path later = IsFree path later

abbrev pub AreLast : List LogRecord → Type 0
AreLast [] = Unit {0}
AreLast (item ∷ items) = IsLastAt item.kind item.old_path items × AreLast items

-- The records name no system file, and none behind one that writes a file anew names that file.
pub record IsOrderly (items : List LogRecord) : Type 0 where
  pub ordinary : AllByRecursion IsOrdinary items
  pub last : AreLast items

-- The system file has the rows, and what their records still have to do leads from the other files to just the wanted ones.
pub record Holds (rows : Rows) (wanted directory : Directory) : Type 0 where
  pub items : List LogRecord
  pub file : HasRows rows (directory system_path)
  pub log : IsLog rows items
  pub orderly : IsOrderly items
  pub right : IsRight items wanted directory

-- before a commit or after it
abbrev pub HoldsEither : Rows → Directory → Rows → Directory → Directory → Type 0
HoldsEither rows wanted next_rows next_wanted directory = Holds rows wanted directory ⊎ Holds next_rows next_wanted directory

-- What rows stand for: a catalog, and the files of a catalog. In a new directory that is the empty catalog.
pub record Meaning (Catalog : Type 0) : Type 1 where
  pub empty : Catalog
  pub stands : Rows → Catalog → Type 0
  pub files : Catalog → Directory

-- the rows of the system file stand for the catalog, and its files are wanted
pub record Shows {Catalog : Type 0} (meaning : Meaning Catalog) (directory : Directory) (catalog : Catalog) : Type 0 where
  pub rows : Rows
  pub stands : meaning.stands rows catalog
  pub holds : Holds rows (meaning.files catalog) directory

abbrev pub Recovers : {Catalog : Type 0} → Meaning Catalog → Directory → Catalog → Type 0
Recovers meaning directory catalog = (IsNew directory × (catalog ≡ meaning.empty)) ⊎ Shows meaning directory catalog

-- before a commit or after it
abbrev pub RecoversEither : {Catalog : Type 0} → Meaning Catalog → Catalog → Catalog → Directory → Type 0
RecoversEither meaning catalog next directory = Recovers meaning directory catalog ⊎ Recovers meaning directory next
