-- What a plan promises of its records, and what a commit of it asks of the work of all sessions.
use Rattle.std.specs.Prelude.{◌≡◌, true, List, [], ◌∷◌, ◌++◌, Option, Some, None}
use Rattle.std.specs.List.{AllByRecursion}
use Rattle.std.specs.Map.{update}
use Rattle.std.specs.Str.{bytes_eq}
use Rattle.disk_trait.specs.Change.{Directory}
use Rattle.row_batch.specs.declared.operation.Operation.{Operation}
use Rattle.row_batch.specs.Order.{in_order}
use Rattle.ddl_log.specs.declared.records.Kind.TheVariants.{DeleteSpace}
use Rattle.ddl_log.specs.declared.records.LogRecord.{LogRecord}
use Rattle.ddl_log.specs.Records.{IsRecord}
use Rattle.ddl_log.specs.Effect.{effect, by_id, IsFree, IsApart, Agrees}
use Rattle.log_rows.specs.Logs.{ChangesLog}
use Rattle.dict_store_laws.specs.Recovers.{IsOrderly}
use Rattle.dict_store_laws.specs.Kept.{File, Work}
use Rattle.dict_store_laws.specs.Steps.{IsWith}

-- files with one more that was made
abbrev pub with_file : Option File → Directory → Directory
with_file None files = files
with_file (Some file) files = update bytes_eq files file.0 (Some file.1)

-- the records lead from the files of before, with the one that was made, to the wanted ones
abbrev pub LeadsTo : Option File → List LogRecord → Directory → Directory → Type 0
LeadsTo made items before wanted = effect items wanted (with_file made before) ≡ wanted

-- no record of the one list names a path that one of the other names
abbrev pub AreApart : List LogRecord → List LogRecord → Type 0
AreApart [] others = Unit {0}
AreApart (item ∷ items) others = IsApart item others × AreApart items others

-- The work behind a plan: its records stand among the others in the place of those that it takes away, and lead to the next files.
-- At what the others write anew the next files are as before.
pub record Follows (taken planned : List LogRecord) (made : Option File) (work next : Work) : Type 0 where
  pub earlier : List LogRecord
  pub later : List LogRecord
  pub were : work.items ≡ earlier ++ (taken ++ later)
  pub are : next.items ≡ earlier ++ (planned ++ later)
  pub apart : AreApart planned later
  pub leads : LeadsTo made planned work.wanted next.wanted
  pub agrees : Agrees (earlier ++ later) work.wanted next.wanted
  pub agrees_finished : Agrees work.finished work.wanted next.wanted
  pub finished : next.finished ≡ work.finished
  pub orderly : IsOrderly next.items

-- The batch is in order, and does that to the log.
pub record Writes (taken planned : List LogRecord) (batch : List Operation) (next : Work) : Type 0 where
  pub sorted : in_order batch ≡ true
  pub changes : ChangesLog batch taken planned
  pub each : AllByRecursion IsRecord planned
  pub order : by_id next.items ≡ true

-- a plan without a creation
pub record MayExchange (planned : List LogRecord) (batch : List Operation) (work next : Work) : Type 0 where
  pub follows : Follows [] planned None work next
  pub writes : Writes [] planned batch next
  pub made : next.made ≡ work.made

-- A plan whose file was made, at the path of the record that deletes it. No other record names that path.
pub record MayCreate (item : LogRecord) (file : File) (planned : List LogRecord) (batch : List Operation) (work next : Work) : Type 0 where
  pub follows : Follows (item ∷ []) planned (Some file) work next
  pub writes : Writes (item ∷ []) planned batch next
  pub kind : item.kind ≡ DeleteSpace
  pub at : item.old_path ≡ file.0
  pub is_free : IsFree file.0 (follows.earlier ++ follows.later)
  pub made : IsWith file next.made work.made
