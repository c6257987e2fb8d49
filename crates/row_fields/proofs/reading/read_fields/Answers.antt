use Rattle.std.proofs.lemmas.Result.{err_from_is_err_and}
use Rattle.row_fields.specs.declared.fields.Kind.TheVariants.{Byte}
use Rattle.row_fields.specs.Reading.{fields_at}
use Rattle.row_fields.proofs.Loop.{goes_on, ends, is_done}
use Rattle.row_fields.proofs.reading.read_fields.Goals as goal

pub returns-in_err-field : goal.returns-in_err-field
returns-in_err-field c =
    let p = err_from_is_err_and c.from_residual.result c.from_residual.ensures.1 in
    rw (p.1, p.2) (ends c.in_err-field.field-0.0 c.each.fields.items c.args.kinds.now c.each.kind-index Byte c.each.rest.now (fields_at c.args.kinds.now c.args.bytes.now) c.each-test.true c.in_err-field.ensures c.each.invariant)

pub each-preserved : goal.each-preserved
each-preserved c =
    rw c.in_ok-push.ensures.items (goes_on c.each.fields.items c.args.kinds.now c.each.kind-index Byte c.each.rest.now c.in_ok-field.field c.in_ok-field.after.now (fields_at c.args.kinds.now c.args.bytes.now) c.each-test.true c.in_ok-field.ensures c.each.invariant)

pub returns : goal.returns
returns c = is_done c.each.fields.items c.args.kinds.now c.each.kind-index c.each.rest.now (fields_at c.args.kinds.now c.args.bytes.now) c.each-test.false c.each.invariant
