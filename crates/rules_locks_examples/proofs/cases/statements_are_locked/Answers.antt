use Rattle.rules_locks_examples.proofs.Computed.{schemas_made, schemas_gone, listed, tables_made, copied, tables_gone, renewed, moved}
use Rattle.rules_locks_examples.proofs.cases.statements_are_locked.Goals as goal

pub returns-clause-schemas_made : goal.returns-clause-schemas_made
returns-clause-schemas_made c = schemas_made

pub returns-clause-schemas_gone : goal.returns-clause-schemas_gone
returns-clause-schemas_gone c = schemas_gone

pub returns-clause-listed : goal.returns-clause-listed
returns-clause-listed c = listed

pub returns-clause-tables_made : goal.returns-clause-tables_made
returns-clause-tables_made c = tables_made

pub returns-clause-copied : goal.returns-clause-copied
returns-clause-copied c = copied

pub returns-clause-tables_gone : goal.returns-clause-tables_gone
returns-clause-tables_gone c = tables_gone

pub returns-clause-renewed : goal.returns-clause-renewed
returns-clause-renewed c = renewed

pub returns-clause-moved : goal.returns-clause-moved
returns-clause-moved c = moved
