use Rattle.std.proofs.Common.{◌<◌, length, arith}
use Rattle.std.proofs.lemmas.Result.{err_from_is_err_and}
use Rattle.dd_catalog.specs.Follow.{sights}
use Rattle.dd_catalog.specs.LoopLaws.{over_step, over_stop}
use Rattle.info_schema.specs.Listings.{with_object}
use Rattle.info_schema.proofs.listings.add_objects.Goals as goal

pub returns-in_err-add_object : goal.returns-in_err-add_object
returns-in_err-add_object g c =
    let lt : c.names.name-index < length c.args.names.now = omega arith in
    let p = err_from_is_err_and c.from_residual.result c.from_residual.ensures.1 in
    rw (p.1, p.2) (over_stop c.in_err-add_object.field-0.0 (sights (g.L.Lookup.known c.args.look.now)) (with_object c.args.table c.args.schema.now) c.args.names.now c.names.name-index c.name-item.result c.names.rows _ lt c.name-item.is c.in_err-add_object.ensures c.names.invariant)

pub names-preserved : goal.names-preserved
names-preserved g c =
    let lt : c.names.name-index < length c.args.names.now = omega arith in
    over_step (sights (g.L.Lookup.known c.args.look.now)) (with_object c.args.table c.args.schema.now) c.args.names.now c.names.name-index c.name-item.result c.names.rows c.add_object.new.rows _ lt c.name-item.is c.in_ok-add_object.ensures c.names.invariant
