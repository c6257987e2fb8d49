use Rattle.rules_decide.proofs.Whole.{settled, catalogs_agree, known_settles, decided_has_check}
use Rattle.rules_decide.proofs.laws.outcome_laws.Goals as goal

pub returns-clause-decided : goal.returns-clause-decided
returns-clause-decided c = decided_has_check

pub returns-clause-settled : goal.returns-clause-settled
returns-clause-settled c = settled

pub returns-clause-agreeing : goal.returns-clause-agreeing
returns-clause-agreeing c = catalogs_agree

pub returns-clause-known : goal.returns-clause-known
returns-clause-known c = known_settles
