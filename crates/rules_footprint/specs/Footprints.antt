-- All that a statement claims, as far as it is known.
use Rattle.std.specs.Prelude.{List, ◌++◌, Result, Ok, Err}
use Rattle.std.specs.List.{flat_map}
use Rattle.dd_catalog.specs.declared.stop.Stop.{Stop}
use Rattle.rules_outcome.specs.declared.decided.Decided.{Decided}
use Rattle.rules_locks.specs.Claims.{Claim}
use Rattle.rules_locks.specs.Locks.{Intent, step_claims}
use Rattle.rules_locks.specs.Steps.{Step}
use Rattle.rules_footprint.specs.Plans.{AllFit, decided_claims}

-- what its text says, what its steps looked at, and what it then came to
abbrev pub asked_claims : Intent → List Step → Result Decided Stop → List Claim
asked_claims intent steps decided = intent.claims ++ (flat_map (step_claims intent.grip) steps ++ decided_claims steps decided)

-- the steps saw what stood before each edit
abbrev pub IsFitting : List Step → Result Decided Stop → Type 0
IsFitting steps (Ok d) = AllFit steps d
IsFitting steps (Err stop) = Unit {0}
