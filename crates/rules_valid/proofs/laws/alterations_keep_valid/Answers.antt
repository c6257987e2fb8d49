use Rattle.rules_valid.proofs.Altered.{alter_table_keeps, alter_makes}
use Rattle.rules_valid.proofs.laws.alterations_keep_valid.Goals as goal

pub returns-clause-altered : goal.returns-clause-altered
returns-clause-altered c = alter_table_keeps

pub returns-clause-altered_space : goal.returns-clause-altered_space
returns-clause-altered_space c = alter_makes
