-- What a journal's file holds: a gate, and as long as it is open (1), a length, that many bytes of a batch, and the next gate.
use Rattle.std.specs.Prelude.{◌≡◌, ℕ, ◌<◌, ◌^◌, List, [], ◌∷◌, ◌++◌, length, drop}
use Rattle.std.specs.List.{AllByRecursion}
use Rattle.std.specs.Int.{w64, to_be_bytes}
use Rattle.row_batch.specs.declared.operation.Operation.{Operation}
use Rattle.row_batch.specs.Batches.{batch_bytes, IsBatch, frame}

-- a batch whose length has room in eight bytes
pub record IsSized (batch : List Operation) : Type 0 where
  pub is_batch : IsBatch batch
  pub fits : length (batch_bytes batch) < 2 ^ 64

-- a length of eight bytes, and that many bytes of a batch
abbrev pub sized : List Operation → List ℕ
sized batch = to_be_bytes w64 (length (batch_bytes batch)) ++ batch_bytes batch

-- batches, each behind an open gate
abbrev pub gated : List (List Operation) → List ℕ
gated [] = []
gated (batch ∷ batches) = (1 ∷ sized batch) ++ gated batches

-- from a place on, the file has these batches, each behind an open gate, and then a closed gate
pub record Holds (at : ℕ) (batches : List (List Operation)) (file : List ℕ) : Type 0 where
  pub each : AllByRecursion IsSized batches
  pub gate : ℕ
  pub rest : List ℕ
  pub stands : drop at file ≡ gated batches ++ gate ∷ rest
  pub closed : gate ≡ 1 → ⊥

-- the bytes are the frame of this batch
pub record IsFrame (batch : List Operation) (bytes : List ℕ) : Type 0 where
  pub is_batch : IsBatch batch
  pub same : bytes ≡ frame batch
