use Rattle.rules_alter_laws.proofs.Leaves.{alter_table_leaves, create_index_leaves, drop_index_leaves}
use Rattle.rules_alter_laws.proofs.laws.altered_tables_are_formed.Goals as goal

pub returns-clause-altered : goal.returns-clause-altered
returns-clause-altered c = alter_table_leaves

pub returns-clause-created : goal.returns-clause-created
returns-clause-created c = create_index_leaves

pub returns-clause-dropped : goal.returns-clause-dropped
returns-clause-dropped c = drop_index_leaves
