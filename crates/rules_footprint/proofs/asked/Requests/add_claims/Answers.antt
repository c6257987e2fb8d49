use Rattle.rules_footprint.specs.Coded.{requests_of}
use Rattle.rules_footprint.proofs.Loops.{one_asked}
use Rattle.rules_footprint.proofs.asked.Requests.add_claims.Goals as goal

pub claims-preserved : goal.claims-preserved
claims-preserved c =
    one_asked c.args.claims.now c.claims.claim-index c.claim-item.result (requests_of c.args.self.now) (requests_of c.claims.self) (requests_of c.add_claim.new.self)
    c.claims-test.true c.claim-item.is c.claims.invariant c.in_ok-add_claim.ensures
