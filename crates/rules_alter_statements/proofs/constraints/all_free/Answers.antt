use Rattle.std.proofs.Common.{◌<◌, length, arith}
use Rattle.std.proofs.lemmas.Result.{err_from_is_err_and}
use Rattle.dd_catalog.specs.Follow.{sights}
use Rattle.dd_catalog.specs.LoopLaws.{over_step, over_stop}
use Rattle.rules_rename.specs.Renames.{one_free}
use Rattle.rules_alter_statements.proofs.constraints.all_free.Goals as goal

pub returns-in_err-add_free : goal.returns-in_err-add_free
returns-in_err-add_free g c =
    let lt : c.keys.key-index < length c.args.keys.now = omega arith in
    let p = err_from_is_err_and c.from_residual.result c.from_residual.ensures.1 in
    rw (p.1, p.2) (over_stop c.in_err-add_free.field-0.0 (sights (g.L.Lookup.known c.args.look.now)) (one_free c.args.from.now c.args.to.now) c.args.keys.now c.keys.key-index c.key-item.result c.keys.free _ lt c.key-item.is c.in_err-add_free.ensures c.keys.invariant)

pub keys-preserved : goal.keys-preserved
keys-preserved g c =
    let lt : c.keys.key-index < length c.args.keys.now = omega arith in
    over_step (sights (g.L.Lookup.known c.args.look.now)) (one_free c.args.from.now c.args.to.now) c.args.keys.now c.keys.key-index c.key-item.result c.keys.free c.add_free.new.before _ lt c.key-item.is c.in_ok-add_free.ensures c.keys.invariant
