use Rattle.std.proofs.Common.{length, take, ap, arith}
use Rattle.row_batch.specs.Batches.{operation_bytes}
use Rattle.row_batch.proofs.Framing.{one_more_within, front_within}
use Rattle.row_batch.proofs.writing.size_before.Goals as goal

pub size-size-requires : goal.size-size-requires
size-size-requires c =
    let front = take c.args.place c.args.operations.now in
    let one = one_more_within front c.each.operation-index c.operation-item.result c.each-test.true in
    omega (arith, one, front_within c.args.operations.now c.args.place, ap (λ o. length (operation_bytes o)) c.operation-item.is, c.requires.room)

pub overflow_add-size : goal.overflow_add-size
overflow_add-size c =
    let front = take c.args.place c.args.operations.now in
    let one = one_more_within front c.each.operation-index c.operation-item.result c.each-test.true in
    omega (arith, one, front_within c.args.operations.now c.args.place, ap (λ o. length (operation_bytes o)) c.operation-item.is, c.requires.room, c.size-size.ensures, c.each.invariant)
