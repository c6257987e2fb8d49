use Rattle.rules_intents.specs.Intents.{action_claims}
use Rattle.rules_footprint.specs.Coded.{claims_of}
use Rattle.rules_footprint.proofs.Loops.{one_more}
use Rattle.rules_footprint.proofs.texts.add_actions.Goals as goal

pub actions-preserved : goal.actions-preserved
actions-preserved c =
    one_more (action_claims c.args.current.now c.args.table.now) c.args.actions.now c.actions.action-index c.action-item.result (claims_of c.args.claims.now) (claims_of c.actions.claims) (claims_of c.add_action.new.claims)
    c.actions-test.true c.action-item.is c.actions.invariant c.in_ok-add_action.ensures
