use Rattle.std.proofs.Common.{◌≡◌, ◌++◌, map, take}
use Rattle.rules_locks.specs.Locks.{child_claim}
use Rattle.rules_intents.specs.Grips.{grip as as_grip}
use Rattle.rules_footprint.specs.Coded.{claims_of}
use Rattle.rules_footprint.proofs.looks.add_children.Given as goal

abbrev pub invariant-children : goal.invariant-children
invariant-children l = claims_of l.claims ≡ claims_of l.fn.claims ++ map (child_claim (as_grip l.grip)) (take l.child-index l.children)
