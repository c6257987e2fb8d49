-- What an append leaves of the file, and which calls it makes.
use Rattle.std.specs.Prelude.{◌≡◌, ◌⊎◌, ℕ, ◌+◌, ◌≤◌, List, [], ◌∷◌, ◌++◌, length, take, drop, Option, Some, None}
use Rattle.std.specs.List.{AllByRecursion}
use Rattle.disk_trait.specs.Change.{Directory}
use Rattle.disk_trait.specs.Calls.{Rose, next_count}
use Rattle.disk_trait.specs.Carried.{Off}
use Rattle.row_journal.specs.declared.outcome.Appended.{Appended}
use Rattle.row_journal.specs.declared.outcome.Appended.TheVariants.{Done, Fault, Unsure}
use Rattle.row_batch.specs.declared.operation.Operation.{Operation}
use Rattle.row_batch.specs.Batches.{frame}
use Rattle.row_journal.specs.Contents.{IsSized, gated, Holds}
use Rattle.row_journal.specs.Value.{JournalValue}

-- there is a file, with these batches
abbrev pub Has : ℕ → List (List Operation) → Option (List ℕ) → Type 0
Has at batches None = ⊥
Has at batches (Some file) = Holds at batches file

-- the bytes before a place are the same, and the file is there if it was
abbrev pub SameFront : ℕ → Option (List ℕ) → Option (List ℕ) → Type 0
SameFront at None None = Unit {0}
SameFront at None (Some new) = ⊥
SameFront at (Some old) None = ⊥
SameFront at (Some old) (Some new) = take at new ≡ take at old

-- the file has these batches and what stood before them, and nothing else changed
pub record Keeps (path : List ℕ) (at : ℕ) (batches : List (List Operation)) (old new : Directory) : Type 0 where
  pub off : Off path old new
  pub front : SameFront at (old path) (new path)
  pub file : Has at batches (new path)

-- the file has the batches with a new one or without and what stood before them, and nothing else changed
pub record MayAppend (path : List ℕ) (at : ℕ) (batches : List (List Operation)) (batch : List Operation) (old new : Directory) : Type 0 where
  pub off : Off path old new
  pub front : SameFront at (old path) (new path)
  pub file : Has at batches (new path) ⊎ Has at (batches ++ batch ∷ []) (new path)

-- the file reaches past its closed gate
abbrev pub HasGate : List ℕ → ℕ → Directory → Type 0
HasGate path end directory = (file : List ℕ) × (directory path ≡ Some file) × (end + 1 ≤ length file)

-- the file has the batches, and behind their closed gate the frame of a new one
pub record Staged (path : List ℕ) (at end : ℕ) (batches : List (List Operation)) (batch : List Operation) (directory : Directory) : Type 0 where
  pub file : List ℕ
  pub there : directory path ≡ Some file
  pub each : AllByRecursion IsSized batches
  pub new : IsSized batch
  pub gate : ℕ
  pub more : List ℕ
  pub stands : drop at file ≡ gated batches ++ gate ∷ (frame batch ++ more)
  pub closed : gate ≡ 1 → ⊥
  pub end_is : end ≡ at + length (gated batches)

abbrev pub IsDone : Appended → Type 0
IsDone Done = Unit {0}
IsDone (Fault count) = ⊥
IsDone (Unsure count) = ⊥

abbrev pub IsFault : Appended → Type 0
IsFault Done = ⊥
IsFault (Fault count) = Unit {0}
IsFault (Unsure count) = ⊥

-- what the disk reads after each answer
abbrev pub ReadsAs : Appended → List ℕ → ℕ → List (List Operation) → List Operation → Directory → Directory → Type 0
ReadsAs Done path at batches batch old new = Keeps path at (batches ++ batch ∷ []) old new
ReadsAs (Fault count) path at batches batch old new = Keeps path at batches old new
ReadsAs (Unsure count) path at batches batch old new = MayAppend path at batches batch old new

-- Four calls were made. A fault is of the first two, before the gate is written, and an unsure answer of the last two; at the
-- last moment the count of calls stands still.
abbrev pub Calls : Appended → ℕ → ℕ → Type 0
Calls Done before now = now ≡ before + 4
Calls (Fault count) before now = (next_count before ≤ now) × (now ≤ before + 2)
Calls (Unsure count) before now = (next_count (before + 2) ≤ now) × (now ≤ before + 4)

-- a count that was answered is that of the faults now, and it rose in the call
abbrev pub HasCause : Appended → ℕ → ℕ → Type 0
HasCause Done before now = Unit {0}
HasCause (Fault count) before now = (count ≡ now) × Rose before now
HasCause (Unsure count) before now = (count ≡ now) × Rose before now

-- the journal after each answer to a frame of that length: its end moves on, or it keeps the number of the fault
abbrev pub journal_after : Appended → ℕ → JournalValue → JournalValue
journal_after Done size journal = record journal { end = journal.end + size }
journal_after (Fault count) size journal = record journal { fault = Some count }
journal_after (Unsure count) size journal = record journal { fault = Some count }
