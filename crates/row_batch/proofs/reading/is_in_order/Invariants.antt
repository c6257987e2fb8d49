use Rattle.std.proofs.Common.{◌≡◌, length}
use Rattle.row_batch.specs.Order.{in_order}
use Rattle.row_batch.proofs.reading.is_in_order.Given as goal

abbrev pub invariant-pairs : goal.invariant-pairs
invariant-pairs l = in_order l.rest ≡ in_order l.operations

abbrev pub decreases-pairs : goal.decreases-pairs
decreases-pairs l = length l.rest
