use Rattle.rules_valid.proofs.Emptied.{truncate_leaves}
use Rattle.rules_valid.proofs.Likes.{create_like_leaves}
use Rattle.rules_valid.proofs.Sessions.{use_leaves, set_leaves, databases_leave, tables_leave, create_database_leaves, drop_database_leaves, create_table_leaves, drop_table_leaves, rename_leaves}
use Rattle.rules_valid.proofs.laws.sessions_stay_named.Goals as goal

pub returns-clause-used : goal.returns-clause-used
returns-clause-used c = use_leaves

pub returns-clause-set : goal.returns-clause-set
returns-clause-set c = set_leaves

pub returns-clause-databases : goal.returns-clause-databases
returns-clause-databases c = databases_leave

pub returns-clause-tables : goal.returns-clause-tables
returns-clause-tables c = tables_leave

pub returns-clause-schema_created : goal.returns-clause-schema_created
returns-clause-schema_created c = create_database_leaves

pub returns-clause-schema_dropped : goal.returns-clause-schema_dropped
returns-clause-schema_dropped c = drop_database_leaves

pub returns-clause-table_created : goal.returns-clause-table_created
returns-clause-table_created c = create_table_leaves

pub returns-clause-tables_dropped : goal.returns-clause-tables_dropped
returns-clause-tables_dropped c = drop_table_leaves

pub returns-clause-renamed : goal.returns-clause-renamed
returns-clause-renamed c = rename_leaves

pub returns-clause-table_liked : goal.returns-clause-table_liked
returns-clause-table_liked c = create_like_leaves

pub returns-clause-table_emptied : goal.returns-clause-table_emptied
returns-clause-table_emptied c = truncate_leaves
