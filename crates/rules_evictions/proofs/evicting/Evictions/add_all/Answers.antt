use Rattle.rules_evictions.proofs.Adds.{one_added}
use Rattle.rules_evictions.proofs.evicting.Evictions.add_all.Goals as goal

pub claims-preserved : goal.claims-preserved
claims-preserved c =
    one_added c.args.self.now c.claims.self c.add.new.self c.args.claims.now c.claims.claim-index c.claim-item.result c.claims-test.true c.claim-item.is c.claims.invariant c.in_ok-add.ensures
