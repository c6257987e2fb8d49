use Rattle.rules_intents.specs.Intents.{pair_claims}
use Rattle.rules_footprint.specs.Coded.{claims_of}
use Rattle.rules_footprint.proofs.Loops.{one_more}
use Rattle.rules_footprint.proofs.texts.add_pairs.Goals as goal

pub pairs-preserved : goal.pairs-preserved
pairs-preserved c =
    one_more (pair_claims c.args.current.now) c.args.pairs.now c.pairs.pair-index c.pair-item.result (claims_of c.args.claims.now) (claims_of c.pairs.claims) (claims_of c.add_pair.new.claims)
    c.pairs-test.true c.pair-item.is c.pairs.invariant c.in_ok-add_pair.ensures
