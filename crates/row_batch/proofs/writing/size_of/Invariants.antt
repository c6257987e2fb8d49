use Rattle.std.proofs.Common.{◌≡◌, ◌+◌, length, take}
use Rattle.std.specs.List.{flat_map}
use Rattle.row_batch.specs.Batches.{operation_bytes}
use Rattle.row_batch.proofs.writing.size_of.Given as goal

abbrev pub invariant-each : goal.invariant-each
invariant-each l = l.size ≡ 13 + length (flat_map operation_bytes (take l.operation-index l.operations))
