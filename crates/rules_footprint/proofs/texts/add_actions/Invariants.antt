use Rattle.std.proofs.Common.{◌≡◌, ◌++◌, take}
use Rattle.std.specs.List.{flat_map}
use Rattle.rules_intents.specs.Intents.{action_claims}
use Rattle.rules_footprint.specs.Coded.{claims_of}
use Rattle.rules_footprint.proofs.texts.add_actions.Given as goal

abbrev pub invariant-actions : goal.invariant-actions
invariant-actions l = claims_of l.claims ≡ claims_of l.fn.claims ++ flat_map (action_claims l.current l.table) (take l.action-index l.actions)
