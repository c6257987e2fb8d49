use Rattle.rules_intents.specs.Intents.{at_named, changes}
use Rattle.rules_footprint.specs.Coded.{claims_of}
use Rattle.rules_footprint.proofs.Loops.{one_more}
use Rattle.rules_footprint.proofs.texts.add_dropped.Goals as goal

pub tables-preserved : goal.tables-preserved
tables-preserved c =
    one_more (at_named changes c.args.current.now) c.args.tables.now c.tables.table-index c.table-item.result (claims_of c.args.claims.now) (claims_of c.tables.claims) (claims_of c.add_changed.new.claims)
    c.tables-test.true c.table-item.is c.tables.invariant c.in_ok-add_changed.ensures
