use Rattle.std.proofs.Common.{◌≡◌, ◌++◌, map, take}
use Rattle.std.specs.List.{flat_map}
use Rattle.rules_locks.specs.Locks.{step_claims}
use Rattle.rules_intents.specs.Grips.{grip as as_grip}
use Rattle.rules_footprint.specs.Coded.{claims_of}
use Rattle.rules_footprint.specs.Steps.{step_of}
use Rattle.rules_footprint.proofs.looks.add_looks.Given as goal

abbrev pub invariant-told : goal.invariant-told
invariant-told l = claims_of l.claims ≡ claims_of l.fn.claims ++ flat_map (step_claims (as_grip l.grip)) (map step_of (take l.one-index l.told))
