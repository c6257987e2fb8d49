-- What the bytes of a file are read as.
use Rattle.std.specs.Prelude.{◌≡◌, ℕ, ◌+◌, ◌<◌, ◌^◌, List, [], ◌∷◌, ◌++◌, length, drop, map, Option}
use Rattle.std.specs.List.{AllByRecursion}
use Rattle.std.specs.Int.{w64, to_be_bytes}
use Rattle.std.specs.Option.{unwrap_or}
use Rattle.disk_trait.specs.Calls.{Rose}
use Rattle.row_batch.specs.declared.operation.Operation.{Operation}
use Rattle.row_batch.specs.Batches.{BatchValue, IsBatch, batch_bytes}
use Rattle.row_journal.specs.declared.outcome.JournalFault.{JournalFault}
use Rattle.row_journal.specs.declared.outcome.JournalFault.TheVariants as faults
use Rattle.row_journal.specs.Contents.{IsSized, sized, gated}

-- a length of eight bytes, and that many bytes of a batch at the front
pub record BeginsWithBatch (bytes : List ℕ) : Type 0 where
  pub batch : List Operation
  pub more : List ℕ
  pub is_sized : IsSized batch
  pub split : bytes ≡ sized batch ++ more

-- no gate, or an open one before bytes that are no length with that many bytes of a batch
abbrev pub IsFaulty : List ℕ → Type 0
IsFaulty [] = Unit {0}
IsFaulty (gate ∷ bytes) = (gate ≡ 1) × (BeginsWithBatch bytes → ⊥)

-- At `place`, behind batches that the bytes begin with, a gate is missing, or an open one stands before no batch. The first of the
-- bytes is at `at`.
pub record FaultyFrom (at place : ℕ) (bytes : List ℕ) : Type 0 where
  pub batches : List (List Operation)
  pub each : AllByRecursion IsSized batches
  pub rest : List ℕ
  pub stands : bytes ≡ gated batches ++ rest
  pub faulty : IsFaulty rest
  pub place_is : place ≡ at + length (gated batches)

-- so it is in a file from `at` on; one that isn't there is as an empty one
abbrev pub IsMalformed : ℕ → ℕ → Option (List ℕ) → Type 0
IsMalformed at place file = FaultyFrom at place (drop at (unwrap_or file []))

-- a fault of the bytes is told as it is, and the disk doesn't fail where it isn't called
abbrev pub IsReadFault : ℕ → List ℕ → JournalFault → Type 0
IsReadFault at bytes (faults.Fault count) = ⊥
IsReadFault at bytes (faults.Malformed place) = FaultyFrom at place bytes
IsReadFault at bytes faults.Memory = Unit {0}

-- a fault of a file is told as it is
abbrev pub IsFaultOf : ℕ → Option (List ℕ) → JournalFault → Type 0
IsFaultOf at file (faults.Fault count) = Unit {0}
IsFaultOf at file (faults.Malformed place) = IsMalformed at place file
IsFaultOf at file faults.Memory = Unit {0}

-- the bytes between an open gate at `at` and the next are no batch's
abbrev pub IsNoBatch : ℕ → List ℕ → JournalFault → Type 0
IsNoBatch at content (faults.Fault count) = ⊥
IsNoBatch at content (faults.Malformed place) = (place ≡ at) × ((batch : List Operation) → IsBatch batch → content ≡ batch_bytes batch → ⊥)
IsNoBatch at content faults.Memory = Unit {0}

-- the operations of each batch
abbrev pub operations_of : List BatchValue → List (List Operation)
operations_of batches = map (λ batch. batch.operations) batches

-- a fault that isn't one of the bytes
abbrev pub IsOutside : JournalFault → Type 0
IsOutside (faults.Fault count) = Unit {0}
IsOutside (faults.Malformed place) = ⊥
IsOutside faults.Memory = Unit {0}

-- a fault of the bytes at this place, or of something else
abbrev pub IsNoOtherThan : ℕ → JournalFault → Type 0
IsNoOtherThan place (faults.Fault count) = Unit {0}
IsNoOtherThan place (faults.Malformed at) = at ≡ place
IsNoOtherThan place faults.Memory = Unit {0}

-- a fault of the disk was counted in the call
abbrev pub HasCount : JournalFault → ℕ → ℕ → Type 0
HasCount (faults.Fault count) before now = (count ≡ now) × Rose before now
HasCount (faults.Malformed place) before now = Unit {0}
HasCount faults.Memory before now = Unit {0}

-- what stands at the front: a closed gate; an open one, bytes behind their length, and more; or neither
pub record IsClosed (bytes : List ℕ) : Type 0 where
  pub gate : ℕ
  pub more : List ℕ
  pub split : bytes ≡ gate ∷ more
  pub closed : gate ≡ 1 → ⊥

pub record IsOpen (content more bytes : List ℕ) : Type 0 where
  pub fits : length content < 2 ^ 64
  pub split : bytes ≡ 1 ∷ ((to_be_bytes w64 (length content) ++ content) ++ more)
