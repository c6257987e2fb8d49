-- What the answer of a call says.
use Rattle.std.specs.Prelude.{◌≡◌, ℕ, List, Option, Some, None, Result, Ok, Err}
use Rattle.disk_trait.specs.Calls.{Rose}
use Rattle.row_batch.specs.declared.operation.Operation.{Operation}
use Rattle.row_batch.specs.Rows.{Rows, applied}
use Rattle.dict_store.specs.declared.fault.StoreFault.{StoreFault}
use Rattle.dict_store.specs.declared.fault.StoreFault.TheVariants.{Fault, Unsure, Halted, Memory}

-- the disk failed before the batch could count
abbrev pub IsFault : Result (Unit {0}) StoreFault → Type 0
IsFault (Ok done) = ⊥
IsFault (Err (Fault count)) = Unit {0}
IsFault (Err (Unsure count)) = ⊥
IsFault (Err (Halted count)) = ⊥
IsFault (Err Memory) = ⊥

-- no call of the disk was made
abbrev pub IsRefused : Result (Unit {0}) StoreFault → Type 0
IsRefused (Ok done) = ⊥
IsRefused (Err (Fault count)) = ⊥
IsRefused (Err (Unsure count)) = ⊥
IsRefused (Err (Halted count)) = Unit {0}
IsRefused (Err Memory) = Unit {0}

-- a fault of an operation on a file
abbrev pub IsPlain : StoreFault → Type 0
IsPlain (Fault count) = Unit {0}
IsPlain (Unsure count) = ⊥
IsPlain (Halted count) = Unit {0}
IsPlain Memory = ⊥

-- the number that the store keeps behind an answer that it doesn't go on from
abbrev pub halted_by : Result (Unit {0}) StoreFault → Option ℕ → Option ℕ
halted_by (Ok done) kept = kept
halted_by (Err (Fault count)) kept = Some count
halted_by (Err (Unsure count)) kept = Some count
halted_by (Err (Halted count)) kept = kept
halted_by (Err Memory) kept = kept

-- A fault was counted in the call, and its number is that of the faults now; or the store has kept the number of an earlier one.
abbrev pub HasCause : StoreFault → Option ℕ → ℕ → ℕ → Type 0
HasCause (Fault count) kept before now = (kept ≡ None) × (count ≡ now) × Rose before now
HasCause (Unsure count) kept before now = (kept ≡ None) × (count ≡ now) × Rose before now
HasCause (Halted count) kept before now = kept ≡ Some count
HasCause Memory kept before now = kept ≡ None

-- the rows behind each answer to a batch
abbrev pub rows_behind : Result (Unit {0}) StoreFault → List Operation → Rows → Rows
rows_behind (Ok done) batch rows = applied batch rows
rows_behind (Err fault) batch rows = rows
