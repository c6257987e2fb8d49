-- How a batch is kept.
use Rattle.std.specs.Prelude.{◌≡◌, ℕ, true, List, Option}
use Rattle.std.specs.Global.{Vec}
use Rattle.std.specs.Option.{ForSome}
use Rattle.row_batch.specs.declared.operation.Operation.{Operation}
use Rattle.row_batch.specs.Order.{in_order}
use Rattle.row_batch.specs.Batches.{HasRoom, frame}

-- operations in order, and their frame
pub record IsFramed (operations : List Operation) (bytes : List ℕ) : Type 0 where
  pub order : in_order operations ≡ true
  pub frame_is : bytes ≡ frame operations

-- the operations of a batch, which are in order where its frame is made
pub record IsKept (operations : List Operation) (framed : Option (Vec ℕ)) : Type 0 where
  pub room : HasRoom operations
  pub framed_is : ForSome framed (λ bytes. IsFramed operations bytes.items)
