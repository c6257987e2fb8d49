use Rattle.std.proofs.Common.{◌≡◌, ◌++◌, List, map, take}
use Rattle.std.specs.List.{AllByRecursion, flat_map}
use Rattle.rules_outcome.specs.Decided.{change_of}
use Rattle.rules_locks.specs.Locks.{change_claims}
use Rattle.rules_locks.specs.Steps.{Step}
use Rattle.rules_footprint.specs.Coded.{claims_of}
use Rattle.rules_footprint.specs.Plans.{Fits}
use Rattle.rules_footprint.proofs.plans.add_edits.Given as goal

abbrev pub invariant-edits : goal.invariant-edits
invariant-edits l = (steps : List Step) → AllByRecursion (Fits steps) l.edits → claims_of l.claims ≡ claims_of l.fn.claims ++ flat_map (change_claims steps) (map change_of (take l.edit-index l.edits))
