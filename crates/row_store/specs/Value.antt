-- A store of rows as callers see it.
use Rattle.std.specs.Prelude.{ℕ, List, [], ◌∷◌, Option}
use Rattle.row_batch.specs.declared.operation.Operation.{Operation}
use Rattle.row_batch.specs.Rows.{Rows, applied}
use Rattle.row_journal.specs.Value.{JournalValue}
use Rattle.row_journal.specs.Append.{Has}
use Rattle.row_store.specs.Header.{IsHead, head_of}

-- the journal, and the rows that its batches make
pub record StoreValue : Type 0 where
  pub journal : JournalValue
  pub rows : Rows

-- the rows after batches, in their order
abbrev pub rows_after : List (List Operation) → Rows → Rows
rows_after [] rows = rows
rows_after (batch ∷ batches) rows = rows_after batches (applied batch rows)

-- a system file with these batches in its journal
pub record IsRowsFile (batches : List (List Operation)) (file : Option (List ℕ)) : Type 0 where
  pub head : IsHead (head_of file)
  pub journal : Has 64 batches file
