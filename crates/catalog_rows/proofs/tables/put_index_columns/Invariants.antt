use Rattle.catalog_rows.specs.Lists.{index_column_rows}
use Rattle.catalog_rows.specs.Adding.{Anything}
use Rattle.catalog_rows.proofs.Adding.{AddedUpTo}
use Rattle.catalog_rows.proofs.tables.put_index_columns.Given as goal

abbrev pub invariant-each : goal.invariant-each
invariant-each l = AddedUpTo Anything l.fn.batch l.batch (index_column_rows l.columns l.id l.index) l.names l.name-index l.place
