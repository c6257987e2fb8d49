-- Rows in the files of a disk.
use Rattle.std.specs.Prelude.{◌≡◌, ◌⊎◌, ℕ, List, Option}
use Rattle.disk_trait.specs.Change.{Directory}
use Rattle.disk_trait.specs.Story.{Story, WhereTold}
use Rattle.disk_trait.specs.Carried.{Off, IsSettled}
use Rattle.row_batch.specs.declared.operation.Operation.{Operation}
use Rattle.row_batch.specs.Rows.{Rows, no_rows}
use Rattle.row_journal.specs.declared.outcome.Appended.{Appended}
use Rattle.row_journal.specs.declared.outcome.Appended.TheVariants.{Done, Fault, Unsure}
use Rattle.row_store.specs.Value.{StoreValue, rows_after, IsRowsFile}
use Rattle.row_store.specs.Opening.{Opens}

-- a system file of these rows
abbrev pub HasRows : Rows → Option (List ℕ) → Type 0
HasRows rows file = (batches : List (List Operation)) × IsRowsFile batches file × (rows ≡ rows_after batches no_rows)

-- the file of a path is a system file of these rows, and nothing else changed
pub record KeepsRows (path : List ℕ) (rows : Rows) (old new : Directory) : Type 0 where
  pub off : Off path old new
  pub file : HasRows rows (new path)

-- the file of a path is a system file of these rows or of the next, and nothing else changed
pub record MayHaveRows (path : List ℕ) (rows next : Rows) (old new : Directory) : Type 0 where
  pub off : Off path old new
  pub file : HasRows rows (new path) ⊎ HasRows next (new path)

-- what the disk reads after an append: the next rows where it is done, those of before after a fault
abbrev pub ReadsRows : Appended → List ℕ → Rows → Rows → Directory → Directory → Type 0
ReadsRows Done path rows next old new = KeepsRows path next old new
ReadsRows (Fault count) path rows next old new = KeepsRows path rows old new
ReadsRows (Unsure count) path rows next old new = MayHaveRows path rows next old new

-- the disk reads the store's file with its rows, and each crash leaves the file as it reads
pub record IsOnDisk (s : Option Story) (store : StoreValue) : Type 0 where
  pub at : store.journal.at ≡ 64
  pub file : WhereTold s (Opens store.journal store.rows)
  pub settled : IsSettled store.journal.path s
