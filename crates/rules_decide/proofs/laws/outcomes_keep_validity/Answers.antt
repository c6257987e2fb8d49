use Rattle.rules_decide.proofs.Kept.{outcome_kept, outcome_makes}
use Rattle.rules_decide.proofs.laws.outcomes_keep_validity.Goals as goal

pub returns-clause-kept : goal.returns-clause-kept
returns-clause-kept c = outcome_kept

pub returns-clause-one_space : goal.returns-clause-one_space
returns-clause-one_space c = outcome_makes
