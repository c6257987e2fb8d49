use Rattle.std.proofs.Common.{◌≡◌, ◌++◌, take}
use Rattle.std.specs.List.{flat_map}
use Rattle.rules_locks.specs.Locks.{key_claims}
use Rattle.rules_footprint.specs.Coded.{claims_of}
use Rattle.rules_footprint.proofs.plans.add_keys.Given as goal

abbrev pub invariant-left : goal.invariant-left
invariant-left l = claims_of l.claims ≡ claims_of l.fn.claims ++ flat_map (key_claims l.object l.before) (take l.key-index l.left)
