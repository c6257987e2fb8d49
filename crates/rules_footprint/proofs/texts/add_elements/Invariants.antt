use Rattle.std.proofs.Common.{◌≡◌, ◌++◌, take}
use Rattle.std.specs.List.{flat_map}
use Rattle.rules_intents.specs.Intents.{element_claims}
use Rattle.rules_footprint.specs.Coded.{claims_of}
use Rattle.rules_footprint.proofs.texts.add_elements.Given as goal

abbrev pub invariant-elements : goal.invariant-elements
invariant-elements l = claims_of l.claims ≡ claims_of l.fn.claims ++ flat_map (element_claims l.table) (take l.element-index l.elements)
