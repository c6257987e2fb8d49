use Rattle.std.proofs.Common.{take, ap, arith, length, length-append}
use Rattle.std.specs.List.{flat_map}
use Rattle.row_batch.specs.Batches.{operation_bytes}
use Rattle.row_batch.proofs.Framing.{one_more_within}
use Rattle.row_batch.proofs.writing.push_operations.Goals as goal

pub push_operation-requires-clause-room : goal.push_operation-requires-clause-room
push_operation-requires-clause-room c =
    let one = one_more_within c.args.operations.now c.each.operation-index c.operation-item.result c.each-test.true in
    omega (arith, one, ap (λ o. length (operation_bytes o)) c.operation-item.is, ap length c.each.invariant.written, length-append c.args.bytes.now.items (flat_map operation_bytes (take c.each.operation-index c.args.operations.now)), c.requires.room, c.each.invariant.room)
