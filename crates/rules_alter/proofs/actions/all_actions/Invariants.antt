use Rattle.std.proofs.Common.{◌≡◌, drop}
use Rattle.dd_catalog.specs.Walks.{run, over}
use Rattle.dd_catalog.specs.Follow.{sights}
use Rattle.rules_alter.specs.Actions.{one_action}
use Rattle.rules_alter.proofs.actions.all_actions.Given as goal

abbrev pub invariant-actions : goal.invariant-actions
invariant-actions g l = run (sights (g.L.Lookup.known l.look)) (over one_action l.state (drop l.action-index l.actions)) ≡ run (sights (g.L.Lookup.known l.look)) (over one_action l.fn.state l.actions)
