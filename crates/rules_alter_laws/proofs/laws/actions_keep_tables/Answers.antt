use Rattle.rules_alter_laws.proofs.Actions.{action_behind}
use Rattle.rules_alter_laws.proofs.Leaves.{table_is_formed_behind}
use Rattle.rules_alter_laws.proofs.Limits.{formed_stands}
use Rattle.rules_alter_laws.proofs.laws.actions_keep_tables.Goals as goal

pub returns-clause-formed : goal.returns-clause-formed
returns-clause-formed c = formed_stands

pub returns-clause-one : goal.returns-clause-one
returns-clause-one c = λ look action before behind good is. (action_behind look action before behind good is).stands

pub returns-clause-all : goal.returns-clause-all
returns-clause-all c = table_is_formed_behind
