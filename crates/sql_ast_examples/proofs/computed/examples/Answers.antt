use Rattle.sql_ast_examples.proofs.Databases.{databases_1_read, databases_2_read, databases_3_read}
use Rattle.sql_ast_examples.proofs.Tables.{whole_tables_1_read, whole_tables_2_read, whole_tables_3_read, further_tables_1_read, further_tables_2_read, further_tables_3_read}
use Rattle.sql_ast_examples.proofs.Columns.{columns_1_read, columns_2_read, columns_3_read, columns_4_read}
use Rattle.sql_ast_examples.proofs.Keys.{keys_1_read, keys_2_read}
use Rattle.sql_ast_examples.proofs.Actions.{actions_1_read, actions_2_read, actions_3_read}
use Rattle.sql_ast_examples.proofs.Views.{views_read}
use Rattle.sql_ast_examples.proofs.Refused.{databases_refused_1_read, databases_refused_2_read, databases_refused_3_read, databases_refused_4_read, tables_refused_1_read, tables_refused_2_read, tables_refused_3_read, tables_refused_4_read, changes_refused_1_read, changes_refused_2_read, changes_refused_3_read}
use Rattle.sql_ast_examples.proofs.Long.{long_names_read}
use Rattle.sql_ast_examples.proofs.computed.examples.Goals as goal

pub returns-clause-databases_1 : goal.returns-clause-databases_1
returns-clause-databases_1 c = databases_1_read

pub returns-clause-databases_2 : goal.returns-clause-databases_2
returns-clause-databases_2 c = databases_2_read

pub returns-clause-databases_3 : goal.returns-clause-databases_3
returns-clause-databases_3 c = databases_3_read

pub returns-clause-whole_tables_1 : goal.returns-clause-whole_tables_1
returns-clause-whole_tables_1 c = whole_tables_1_read

pub returns-clause-whole_tables_2 : goal.returns-clause-whole_tables_2
returns-clause-whole_tables_2 c = whole_tables_2_read

pub returns-clause-whole_tables_3 : goal.returns-clause-whole_tables_3
returns-clause-whole_tables_3 c = whole_tables_3_read

pub returns-clause-further_tables_1 : goal.returns-clause-further_tables_1
returns-clause-further_tables_1 c = further_tables_1_read

pub returns-clause-further_tables_2 : goal.returns-clause-further_tables_2
returns-clause-further_tables_2 c = further_tables_2_read

pub returns-clause-further_tables_3 : goal.returns-clause-further_tables_3
returns-clause-further_tables_3 c = further_tables_3_read

pub returns-clause-columns_1 : goal.returns-clause-columns_1
returns-clause-columns_1 c = columns_1_read

pub returns-clause-columns_2 : goal.returns-clause-columns_2
returns-clause-columns_2 c = columns_2_read

pub returns-clause-columns_3 : goal.returns-clause-columns_3
returns-clause-columns_3 c = columns_3_read

pub returns-clause-columns_4 : goal.returns-clause-columns_4
returns-clause-columns_4 c = columns_4_read

pub returns-clause-keys_1 : goal.returns-clause-keys_1
returns-clause-keys_1 c = keys_1_read

pub returns-clause-keys_2 : goal.returns-clause-keys_2
returns-clause-keys_2 c = keys_2_read

pub returns-clause-actions_1 : goal.returns-clause-actions_1
returns-clause-actions_1 c = actions_1_read

pub returns-clause-actions_2 : goal.returns-clause-actions_2
returns-clause-actions_2 c = actions_2_read

pub returns-clause-actions_3 : goal.returns-clause-actions_3
returns-clause-actions_3 c = actions_3_read

pub returns-clause-views : goal.returns-clause-views
returns-clause-views c = views_read

pub returns-clause-databases_refused_1 : goal.returns-clause-databases_refused_1
returns-clause-databases_refused_1 c = databases_refused_1_read

pub returns-clause-databases_refused_2 : goal.returns-clause-databases_refused_2
returns-clause-databases_refused_2 c = databases_refused_2_read

pub returns-clause-databases_refused_3 : goal.returns-clause-databases_refused_3
returns-clause-databases_refused_3 c = databases_refused_3_read

pub returns-clause-databases_refused_4 : goal.returns-clause-databases_refused_4
returns-clause-databases_refused_4 c = databases_refused_4_read

pub returns-clause-tables_refused_1 : goal.returns-clause-tables_refused_1
returns-clause-tables_refused_1 c = tables_refused_1_read

pub returns-clause-tables_refused_2 : goal.returns-clause-tables_refused_2
returns-clause-tables_refused_2 c = tables_refused_2_read

pub returns-clause-tables_refused_3 : goal.returns-clause-tables_refused_3
returns-clause-tables_refused_3 c = tables_refused_3_read

pub returns-clause-tables_refused_4 : goal.returns-clause-tables_refused_4
returns-clause-tables_refused_4 c = tables_refused_4_read

pub returns-clause-changes_refused_1 : goal.returns-clause-changes_refused_1
returns-clause-changes_refused_1 c = changes_refused_1_read

pub returns-clause-changes_refused_2 : goal.returns-clause-changes_refused_2
returns-clause-changes_refused_2 c = changes_refused_2_read

pub returns-clause-changes_refused_3 : goal.returns-clause-changes_refused_3
returns-clause-changes_refused_3 c = changes_refused_3_read

pub returns-clause-long_names : goal.returns-clause-long_names
returns-clause-long_names c = long_names_read
