use Rattle.rules_footprint_laws.proofs.Client.{client_held, client_locks, client_plan}
use Rattle.rules_footprint_laws.proofs.laws.footprints_are_locks.Goals as goal

pub returns-clause-exact : goal.returns-clause-exact
returns-clause-exact c = client_locks

pub returns-clause-held : goal.returns-clause-held
returns-clause-held c = client_held

pub returns-clause-plan : goal.returns-clause-plan
returns-clause-plan c = client_plan
