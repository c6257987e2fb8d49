use Rattle.catalog_rows.specs.Lists.{column_rows}
use Rattle.catalog_rows.specs.Stands.{FitsColumn}
use Rattle.catalog_rows.proofs.Adding.{AddedUpTo}
use Rattle.catalog_rows.proofs.tables.put_columns.Given as goal

abbrev pub invariant-each : goal.invariant-each
invariant-each l = AddedUpTo FitsColumn l.fn.batch l.batch (column_rows l.id) l.columns l.column-index l.place
