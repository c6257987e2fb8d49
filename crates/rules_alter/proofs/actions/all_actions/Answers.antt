use Rattle.std.proofs.Common.{◌<◌, length, arith}
use Rattle.std.proofs.lemmas.Result.{err_from_is_err_and}
use Rattle.dd_catalog.specs.Follow.{sights}
use Rattle.dd_catalog.specs.LoopLaws.{over_step, over_stop}
use Rattle.rules_alter.specs.Actions.{one_action}
use Rattle.rules_alter.proofs.actions.all_actions.Goals as goal

pub returns-in_err-one_action : goal.returns-in_err-one_action
returns-in_err-one_action g c =
    let lt : c.actions.action-index < length c.args.actions.now = omega arith in
    let p = err_from_is_err_and c.from_residual.result c.from_residual.ensures.1 in
    rw (p.1, p.2) (over_stop c.in_err-one_action.field-0.0 (sights (g.L.Lookup.known c.args.look.now)) one_action c.args.actions.now c.actions.action-index c.action-item.result c.actions.state _ lt c.action-item.is c.in_err-one_action.ensures c.actions.invariant)

pub actions-preserved : goal.actions-preserved
actions-preserved g c =
    let lt : c.actions.action-index < length c.args.actions.now = omega arith in
    over_step (sights (g.L.Lookup.known c.args.look.now)) one_action c.args.actions.now c.actions.action-index c.action-item.result c.actions.state c.one_action.new.state _ lt c.action-item.is c.in_ok-one_action.ensures c.actions.invariant
