use Rattle.rules_locks_laws.proofs.Known.{known_held, known_plan}
use Rattle.rules_locks_laws.proofs.laws.known_locks_suffice.Goals as goal

pub returns-clause-held : goal.returns-clause-held
returns-clause-held c = known_held

pub returns-clause-plan : goal.returns-clause-plan
returns-clause-plan c = known_plan
