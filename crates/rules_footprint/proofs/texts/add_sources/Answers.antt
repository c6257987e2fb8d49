use Rattle.rules_intents.specs.Intents.{source_claims}
use Rattle.rules_footprint.specs.Coded.{claims_of}
use Rattle.rules_footprint.proofs.Loops.{one_more}
use Rattle.rules_footprint.proofs.texts.add_sources.Goals as goal

pub sources-preserved : goal.sources-preserved
sources-preserved c =
    one_more (source_claims c.args.current.now) c.args.sources.now c.sources.source-index c.source-item.result (claims_of c.args.claims.now) (claims_of c.sources.claims) (claims_of c.add_source.new.claims)
    c.sources-test.true c.source-item.is c.sources.invariant c.in_ok-add_source.ensures
