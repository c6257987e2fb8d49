use Rattle.info_schema_laws.proofs.Counted.{table_counted, text_ends, view_counted}
use Rattle.info_schema_laws.proofs.laws.columns_have_rows.Goals as goal

pub returns-clause-tables : goal.returns-clause-tables
returns-clause-tables c = table_counted

pub returns-clause-texts : goal.returns-clause-texts
returns-clause-texts c = text_ends

pub returns-clause-views : goal.returns-clause-views
returns-clause-views c = view_counted
