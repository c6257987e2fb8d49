use Rattle.rules_footprint_laws.proofs.Client.{known_before, known_seen}
use Rattle.rules_footprint_laws.proofs.laws.clients_know.Goals as goal

pub returns-clause-seen : goal.returns-clause-seen
returns-clause-seen c = known_seen

pub returns-clause-before : goal.returns-clause-before
returns-clause-before c = known_before
