use Rattle.rules_examples.proofs.JudgedCreates.{created_computed, refused_tables_computed, told_as_written_computed, not_told_computed}
use Rattle.rules_examples.proofs.creates.tables_are_created.Goals as goal

pub returns-clause-created : goal.returns-clause-created
returns-clause-created c = created_computed

pub returns-clause-refused : goal.returns-clause-refused
returns-clause-refused c = refused_tables_computed

pub returns-clause-told_as_written : goal.returns-clause-told_as_written
returns-clause-told_as_written c = told_as_written_computed

pub returns-clause-not_told : goal.returns-clause-not_told
returns-clause-not_told c = not_told_computed
