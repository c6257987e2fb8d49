use Rattle.std.proofs.Common.{◌≡◌, ◌++◌, ◌≤◌, take, vec_capacity}
use Rattle.std.specs.List.{flat_map}
use Rattle.row_batch.specs.Batches.{operation_bytes}
use Rattle.row_batch.proofs.writing.push_operations.Given as goal

abbrev pub invariant-each : goal.invariant-each
invariant-each l = record {
  written : l.bytes.items ≡ l.fn.bytes.items ++ flat_map operation_bytes (take l.operation-index l.operations);
  room : vec_capacity l.fn.bytes ≤ vec_capacity l.bytes;
}
