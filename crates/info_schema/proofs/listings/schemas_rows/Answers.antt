use Rattle.std.proofs.Common.{◌<◌, length, arith}
use Rattle.std.proofs.lemmas.Result.{err_from_is_err_and}
use Rattle.dd_catalog.specs.Follow.{sights}
use Rattle.dd_catalog.specs.LoopLaws.{over_step, over_stop}
use Rattle.info_schema.specs.Listings.{with_schema}
use Rattle.info_schema.proofs.listings.schemas_rows.Goals as goal

pub returns-in_err-add_schema : goal.returns-in_err-add_schema
returns-in_err-add_schema g c =
    let lt : c.schemas.schema-index < length c.args.schemas.now = omega arith in
    let p = err_from_is_err_and c.from_residual.result c.from_residual.ensures.1 in
    rw (p.1, p.2) (over_stop c.in_err-add_schema.field-0.0 (sights (g.L.Lookup.known c.args.look.now)) (with_schema c.args.table) c.args.schemas.now c.schemas.schema-index c.schema-item.result c.schemas.rows _ lt c.schema-item.is c.in_err-add_schema.ensures c.schemas.invariant)

pub schemas-preserved : goal.schemas-preserved
schemas-preserved g c =
    let lt : c.schemas.schema-index < length c.args.schemas.now = omega arith in
    over_step (sights (g.L.Lookup.known c.args.look.now)) (with_schema c.args.table) c.args.schemas.now c.schemas.schema-index c.schema-item.result c.schemas.rows c.add_schema.new.rows _ lt c.schema-item.is c.in_ok-add_schema.ensures c.schemas.invariant
