use Rattle.rules_locks.specs.Locks.{step_claims}
use Rattle.rules_intents.specs.Grips.{grip as as_grip}
use Rattle.rules_footprint.specs.Coded.{claims_of}
use Rattle.rules_footprint.specs.Steps.{step_of}
use Rattle.rules_footprint.proofs.Loops.{one_seen}
use Rattle.rules_footprint.proofs.looks.add_looks.Goals as goal

pub told-preserved : goal.told-preserved
told-preserved c =
    one_seen step_of (step_claims (as_grip c.args.grip)) c.args.told.now c.told.one-index c.one-item.result (claims_of c.args.claims.now) (claims_of c.told.claims) (claims_of c.add_look.new.claims)
    c.told-test.true c.one-item.is c.told.invariant c.in_ok-add_look.ensures
