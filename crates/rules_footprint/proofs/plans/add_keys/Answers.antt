use Rattle.rules_locks.specs.Locks.{key_claims}
use Rattle.rules_footprint.specs.Coded.{claims_of}
use Rattle.rules_footprint.proofs.Loops.{one_more}
use Rattle.rules_footprint.proofs.plans.add_keys.Goals as goal

pub left-preserved : goal.left-preserved
left-preserved c =
    one_more (key_claims c.args.object.now c.args.before.now) c.args.left.now c.left.key-index c.key-item.result (claims_of c.args.claims.now) (claims_of c.left.claims) (claims_of c.add_key.new.claims)
    c.left-test.true c.key-item.is c.left.invariant c.in_ok-add_key.ensures
