-- Why a file isn't opened.
use Rattle.std.specs.Prelude.{◌≡◌, ℕ, List, Option, Result, Ok, Err}
use Rattle.disk_trait.specs.Calls.{Rose}
use Rattle.row_batch.specs.declared.operation.Operation.{Operation}
use Rattle.row_store.specs.declared.outcome.RowsRefused.{RowsRefused}
use Rattle.row_store.specs.declared.outcome.RowsRefused.TheVariants.{Fault, NoForm, Version, Memory}
use Rattle.row_store.specs.Header.{IsHead, IsNewerHead, IsNewer}
use Rattle.disk_trait.specs.Change.{Directory}
use Rattle.row_batch.specs.Rows.{Rows, no_rows}
use Rattle.row_journal.specs.Value.{JournalValue, Stands}
use Rattle.row_store.specs.Value.{IsRowsFile, rows_after}

-- the disk failed, or there was no memory
abbrev pub IsOutside : RowsRefused → Type 0
IsOutside (Fault count) = Unit {0}
IsOutside NoForm = ⊥
IsOutside (Version number) = ⊥
IsOutside Memory = Unit {0}

-- that, or a later version with this number
abbrev pub IsVersionOrOutside : ℕ → RowsRefused → Type 0
IsVersionOrOutside number (Fault count) = Unit {0}
IsVersionOrOutside number NoForm = ⊥
IsVersionOrOutside number (Version other) = other ≡ number
IsVersionOrOutside number Memory = Unit {0}

-- a later version is one, and a file without form is neither that nor a file with batches
abbrev pub IsRefusalOf : Option (List ℕ) → RowsRefused → Type 0
IsRefusalOf file (Fault count) = Unit {0}
IsRefusalOf file NoForm = ((batches : List (List Operation)) → IsRowsFile batches file → ⊥) × ((number : ℕ) → IsNewer number file → ⊥)
IsRefusalOf file (Version number) = IsNewer number file
IsRefusalOf file Memory = Unit {0}

-- what the head of a file shows
abbrev pub IsJudged : Result (Unit {0}) RowsRefused → List ℕ → Type 0
IsJudged (Ok done) bytes = IsHead bytes
IsJudged (Err (Fault count)) bytes = ⊥
IsJudged (Err NoForm) bytes = (IsHead bytes → ⊥) × ((number : ℕ) → IsNewerHead number bytes → ⊥)
IsJudged (Err (Version number)) bytes = IsNewerHead number bytes
IsJudged (Err Memory) bytes = ⊥

-- so it is judged, unless the disk failed
abbrev pub IsCheckOf : Result (Unit {0}) RowsRefused → List ℕ → Type 0
IsCheckOf (Ok done) bytes = IsHead bytes
IsCheckOf (Err (Fault count)) bytes = Unit {0}
IsCheckOf (Err NoForm) bytes = (IsHead bytes → ⊥) × ((number : ℕ) → IsNewerHead number bytes → ⊥)
IsCheckOf (Err (Version number)) bytes = IsNewerHead number bytes
IsCheckOf (Err Memory) bytes = ⊥

-- a fault of the disk was counted in the call
abbrev pub HasCount : RowsRefused → ℕ → ℕ → Type 0
HasCount (Fault count) before now = (count ≡ now) × Rose before now
HasCount NoForm before now = Unit {0}
HasCount (Version number) before now = Unit {0}
HasCount Memory before now = Unit {0}

-- the journal's file is a system file with some batches, of which these are the rows
abbrev pub Opens : JournalValue → Rows → Directory → Type 0
Opens journal rows directory = (batches : List (List Operation)) × IsRowsFile batches (directory journal.path) × Stands journal batches directory × (rows ≡ rows_after batches no_rows)
