use Rattle.std.proofs.Common.{◌<◌, ◌≤◌, length, arith}
use Rattle.std.proofs.lemmas.Result.{err_from_is_err_and}
use Rattle.dd_catalog.specs.Follow.{sights}
use Rattle.dd_catalog.specs.LoopLaws.{every_step, every_stop, every_end}
use Rattle.rules_rename.specs.Renames.{schemas_there}
use Rattle.rules_rename.proofs.statement.all_schemas_there.Goals as goal

pub returns-in_err-schemas_there : goal.returns-in_err-schemas_there
returns-in_err-schemas_there g c =
    let lt : c.pairs.pair-index < length c.args.pairs.now = omega arith in
    let p = err_from_is_err_and c.from_residual.result c.from_residual.ensures.1 in
    rw (p.1, p.2) (every_stop c.in_err-schemas_there.field-0.0 (sights (g.L.Lookup.known c.args.look.now)) schemas_there c.args.pairs.now c.pairs.pair-index c.pair-item.result _ lt c.pair-item.is c.in_err-schemas_there.ensures c.pairs.invariant)

pub pairs-preserved : goal.pairs-preserved
pairs-preserved g c =
    let lt : c.pairs.pair-index < length c.args.pairs.now = omega arith in
    every_step (sights (g.L.Lookup.known c.args.look.now)) schemas_there c.args.pairs.now c.pairs.pair-index c.pair-item.result _ lt c.pair-item.is c.in_ok-schemas_there.ensures c.pairs.invariant

pub returns : goal.returns
returns g c =
    let le : length c.args.pairs.now ≤ c.pairs.pair-index = omega arith in
    every_end (sights (g.L.Lookup.known c.args.look.now)) schemas_there c.args.pairs.now c.pairs.pair-index _ le c.pairs.invariant
