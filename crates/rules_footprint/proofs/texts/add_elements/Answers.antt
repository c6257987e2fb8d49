use Rattle.rules_intents.specs.Intents.{element_claims}
use Rattle.rules_footprint.specs.Coded.{claims_of}
use Rattle.rules_footprint.proofs.Loops.{one_more}
use Rattle.rules_footprint.proofs.texts.add_elements.Goals as goal

pub elements-preserved : goal.elements-preserved
elements-preserved c =
    one_more (element_claims c.args.table.now) c.args.elements.now c.elements.element-index c.element-item.result (claims_of c.args.claims.now) (claims_of c.elements.claims) (claims_of c.add_element.new.claims)
    c.elements-test.true c.element-item.is c.elements.invariant c.in_ok-add_element.ensures
