use Rattle.rules_rename_laws.proofs.ForeignKeys.{table_is_formed, child_is_formed}
use Rattle.rules_rename_laws.proofs.Leaves.{rename_leaves_formed}
use Rattle.rules_rename_laws.proofs.laws.renamed_tables_are_formed.Goals as goal

pub returns-clause-table : goal.returns-clause-table
returns-clause-table c = table_is_formed

pub returns-clause-child : goal.returns-clause-child
returns-clause-child c = child_is_formed

pub returns-clause-left : goal.returns-clause-left
returns-clause-left c = rename_leaves_formed
