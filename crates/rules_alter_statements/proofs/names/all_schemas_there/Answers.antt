use Rattle.std.proofs.Common.{◌<◌, ◌≤◌, length, arith}
use Rattle.std.proofs.lemmas.Result.{err_from_is_err_and}
use Rattle.dd_catalog.specs.Follow.{sights}
use Rattle.dd_catalog.specs.LoopLaws.{every_step, every_stop, every_end}
use Rattle.rules_named.specs.Named.{own_schema_there}
use Rattle.rules_alter_statements.proofs.names.all_schemas_there.Goals as goal

pub returns-in_err-own_schema_there : goal.returns-in_err-own_schema_there
returns-in_err-own_schema_there g c =
    let lt : c.names.name-index < length c.args.names.now = omega arith in
    let p = err_from_is_err_and c.from_residual.result c.from_residual.ensures.1 in
    rw (p.1, p.2) (every_stop c.in_err-own_schema_there.field-0.0 (sights (g.L.Lookup.known c.args.look.now)) own_schema_there c.args.names.now c.names.name-index c.name-item.result _ lt c.name-item.is c.in_err-own_schema_there.ensures c.names.invariant)

pub names-preserved : goal.names-preserved
names-preserved g c =
    let lt : c.names.name-index < length c.args.names.now = omega arith in
    every_step (sights (g.L.Lookup.known c.args.look.now)) own_schema_there c.args.names.now c.names.name-index c.name-item.result _ lt c.name-item.is c.in_ok-own_schema_there.ensures c.names.invariant

pub returns : goal.returns
returns g c =
    let le : length c.args.names.now ≤ c.names.name-index = omega arith in
    every_end (sights (g.L.Lookup.known c.args.look.now)) own_schema_there c.args.names.now c.names.name-index _ le c.names.invariant
