use Rattle.std.proofs.Common.{◌<◌, length, arith}
use Rattle.std.proofs.lemmas.Result.{err_from_is_err_and}
use Rattle.dd_catalog.specs.Follow.{sights}
use Rattle.dd_catalog.specs.LoopLaws.{over_step, over_stop}
use Rattle.rules_alter.specs.Statements.{one_child}
use Rattle.rules_alter_statements.proofs.children.all_children.Goals as goal

pub returns-in_err-one_child : goal.returns-in_err-one_child
returns-in_err-one_child g c =
    let lt : c.names.name-index < length c.args.names.now = omega arith in
    let p = err_from_is_err_and c.from_residual.result c.from_residual.ensures.1 in
    rw (p.1, p.2) (over_stop c.in_err-one_child.field-0.0 (sights (g.L.Lookup.known c.args.look.now)) one_child c.args.names.now c.names.name-index c.name-item.result c.names.children _ lt c.name-item.is c.in_err-one_child.ensures c.names.invariant)

pub names-preserved : goal.names-preserved
names-preserved g c =
    let lt : c.names.name-index < length c.args.names.now = omega arith in
    over_step (sights (g.L.Lookup.known c.args.look.now)) one_child c.args.names.now c.names.name-index c.name-item.result c.names.children c.one_child.new.children _ lt c.name-item.is c.in_ok-one_child.ensures c.names.invariant
