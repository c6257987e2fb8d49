-- What each step of a session asks of the work, so that what it leaves is kept.
use Rattle.std.specs.Prelude.{◌≡◌, ℕ, true, List, ◌∷◌, ◌++◌, Option, None}
use Rattle.disk_trait.specs.Change.{Directory}
use Rattle.disk_trait.specs.Story.{Story, Images}
use Rattle.row_batch.specs.declared.operation.Operation.{Operation}
use Rattle.row_batch.specs.Rows.{Rows, applied}
use Rattle.ddl_log.specs.declared.records.Kind.TheVariants.{DeleteSpace}
use Rattle.ddl_log.specs.declared.records.LogRecord.{LogRecord}
use Rattle.ddl_log.specs.Effect.{by_id, IsFree, IsApart}
use Rattle.post_ddl.specs.Replays.{HasBytes}
use Rattle.log_rows.specs.Logs.{IsLog}
use Rattle.dict_store_laws.specs.System.{IsOrdinary}
use Rattle.dict_store_laws.specs.Kept.{File, Work, NamesNone, IsNone, IsFit, IsSoFar}

-- a list with one more in its place
pub record IsWith {A : Type 0} (x : A) (without more : List A) : Type 0 where
  pub earlier : List A
  pub later : List A
  pub without_is : without ≡ earlier ++ later
  pub more_is : more ≡ earlier ++ x ∷ later

-- the record is one of these, and no earlier one names a path that it names
pub record IsFirst (item : LogRecord) (items : List LogRecord) : Type 0 where
  pub earlier : List LogRecord
  pub later : List LogRecord
  pub are : items ≡ earlier ++ item ∷ later
  pub apart : IsApart item earlier

-- ## Commits

-- Behind the batch the rows have the records of the next work, and each crash now leaves what is as far as that.
pub record MayCommit (s : Option Story) (rows : Rows) (batch : List Operation) (next : Work) : Type 0 where
  pub log : IsLog (applied batch rows) next.items
  pub fit : IsFit next
  pub so_far : (image : Directory) → Images s image → IsSoFar next image

-- ## The record of a creation

-- A record of the file's deletion may be put among the others; none of them names its path, and nothing is wanted there.
pub record MayPrepare (item : LogRecord) (work : Work) (items : List LogRecord) : Type 0 where
  pub place : IsWith item work.items items
  pub order : by_id items ≡ true
  pub kind : item.kind ≡ DeleteSpace
  pub ordinary : IsOrdinary item
  pub apart : IsApart item work.items
  pub unwanted : work.wanted item.old_path ≡ None

-- ## The file of a creation

-- A record deletes the file of this path, which no done record names, and no other made file has.
pub record MayMake (path : List ℕ) (work : Work) : Type 0 where
  pub item : LogRecord
  pub first : IsFirst item work.items
  pub kind : item.kind ≡ DeleteSpace
  pub at : item.old_path ≡ path
  pub finished : IsFree path work.finished
  pub made : IsNone path work.made

-- ## The operation of a record

-- The record is there, is given the bytes that are wanted, and names no path of a done record and no made file.
pub record MayReplay (item : LogRecord) (bytes : List ℕ) (work : Work) : Type 0 where
  pub first : IsFirst item work.items
  pub given : HasBytes item bytes work.wanted
  pub finished : IsApart item work.finished
  pub made : NamesNone item work.made

-- The record is there and done, no earlier one names a path that it names, and without it these are left.
pub record MayRemove (item : LogRecord) (work : Work) (items finished : List LogRecord) : Type 0 where
  pub place : IsWith item items work.items
  pub done : IsWith item finished work.finished
  pub apart : IsApart item place.earlier

-- the same work with other records
abbrev pub with_records : Work → List LogRecord → List LogRecord → Work
with_records work items finished = record { items = items; wanted = work.wanted; finished = finished; made = work.made }

-- and with other files that were made
abbrev pub with_made : Work → List File → Work
with_made work made = record { items = work.items; wanted = work.wanted; finished = work.finished; made = made }
