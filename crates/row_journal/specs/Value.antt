-- A journal as callers see it.
use Rattle.std.specs.Prelude.{◌≡◌, ℕ, ◌+◌, List, length, Option, Some}
use Rattle.disk_trait.specs.Change.{Directory}
use Rattle.row_batch.specs.declared.operation.Operation.{Operation}
use Rattle.row_journal.specs.Contents.{gated, Holds}

-- a file, the place of its first gate, the place of its closed gate, and the number of the fault of an append, if one failed
pub record JournalValue : Type 0 where
  pub path : List ℕ
  pub at : ℕ
  pub end : ℕ
  pub fault : Option ℕ

-- the file of a path has these batches from a place on, and its closed gate at another
abbrev pub EndsAt : List ℕ → ℕ → ℕ → List (List Operation) → Directory → Type 0
EndsAt path at end batches directory = (file : List ℕ) × (directory path ≡ Some file) × Holds at batches file × (end ≡ at + length (gated batches))

-- the journal's file has these batches, and the closed gate at its end
abbrev pub Stands : JournalValue → List (List Operation) → Directory → Type 0
Stands journal batches directory = EndsAt journal.path journal.at journal.end batches directory

-- the journal's file has some batches, and the closed gate at its end
abbrev pub StandsSome : JournalValue → Directory → Type 0
StandsSome journal directory = (batches : List (List Operation)) × Stands journal batches directory
