use Rattle.rules_locks_laws.proofs.Evicts.{unhit_stays}
use Rattle.rules_locks_laws.proofs.laws.evictions_suffice.Goals as goal

pub returns : goal.returns
returns c = unhit_stays
