use Rattle.rules_create.proofs.Formed.{table_is_formed, table_has_name, create_leaves_formed}
use Rattle.rules_create.proofs.laws.made_tables_are_formed.Goals as goal

pub returns-clause-formed : goal.returns-clause-formed
returns-clause-formed c = table_is_formed

pub returns-clause-named : goal.returns-clause-named
returns-clause-named c = table_has_name

pub returns-clause-left : goal.returns-clause-left
returns-clause-left c = create_leaves_formed
