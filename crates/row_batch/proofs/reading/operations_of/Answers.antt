use Rattle.std.proofs.lemmas.Result.{err_from_is_err_and}
use Rattle.row_batch.specs.Reading.{operations_at}
use Rattle.row_batch.proofs.Loop.{goes_on, ends, is_done}
use Rattle.row_batch.proofs.reading.operations_of.Goals as goal

pub returns-in_err-operation : goal.returns-in_err-operation
returns-in_err-operation c =
    let p = err_from_is_err_and c.from_residual.result c.from_residual.ensures.1 in
    rw (p.1, p.2) (ends c.in_err-operation.field-0.0 c.each.operations.items c.args.count c.each.counter c.each.rest.now (operations_at c.args.count c.args.bytes.now) c.each-test.true c.in_err-operation.ensures c.each.invariant)

pub each-preserved : goal.each-preserved
each-preserved c =
    rw c.in_ok-push.ensures.items (goes_on c.each.operations.items c.args.count c.each.counter c.each.rest.now c.in_ok-operation.operation c.in_ok-operation.after.now (operations_at c.args.count c.args.bytes.now) c.each-test.true c.in_ok-operation.ensures c.each.invariant)

pub returns : goal.returns
returns c = is_done c.each.operations.items c.args.count c.each.counter c.each.rest.now (operations_at c.args.count c.args.bytes.now) c.each-test.false c.each.invariant
