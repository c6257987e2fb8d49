-- What a commit has come to.
use Rattle.std.specs.Prelude.{Bool, true, false, List}
use Rattle.row_batch.specs.declared.operation.Operation.{Operation}
use Rattle.row_batch.specs.Rows.{Rows, applied}
use Rattle.row_journal.specs.declared.outcome.Appended.{Appended}
use Rattle.row_journal.specs.declared.outcome.Appended.TheVariants as appends
use Rattle.row_store.specs.declared.outcome.Committed.{Committed}
use Rattle.row_store.specs.declared.outcome.Committed.TheVariants.{Done, Fault, Unsure, Memory}

-- P of what the append to the journal has come to, where there was one
abbrev pub Through : Committed → (Appended → Type 0) → Type 0
Through Done P = P appends.Done
Through (Fault count) P = P (appends.Fault count)
Through (Unsure count) P = P (appends.Unsure count)
Through Memory P = Unit {0}

-- P where there was no memory
abbrev pub WithoutMemory : Committed → Type 0 → Type 0
WithoutMemory Done P = Unit {0}
WithoutMemory (Fault count) P = Unit {0}
WithoutMemory (Unsure count) P = Unit {0}
WithoutMemory Memory P = P

-- the rows after each answer: those with the batch where it is done, and else those of before
abbrev pub rows_committed : Committed → List Operation → Rows → Rows
rows_committed Done batch rows = applied batch rows
rows_committed (Fault count) batch rows = rows
rows_committed (Unsure count) batch rows = rows
rows_committed Memory batch rows = rows

abbrev pub is_done : Appended → Bool
is_done appends.Done = true
is_done (appends.Fault count) = false
is_done (appends.Unsure count) = false
