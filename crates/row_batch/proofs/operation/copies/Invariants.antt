use Rattle.std.proofs.Common.{◌≡◌, take}
use Rattle.row_batch.proofs.operation.copies.Given as goal

abbrev pub invariant-each : goal.invariant-each
invariant-each l = l.copies.items ≡ take l.operation-index l.operations
