use Rattle.catalog_rows.specs.Lists.{key_column_rows}
use Rattle.catalog_rows.specs.Adding.{Anything}
use Rattle.catalog_rows.proofs.Adding.{AddedUpTo}
use Rattle.catalog_rows.proofs.tables.put_key_columns.Given as goal

abbrev pub invariant-each : goal.invariant-each
invariant-each l = AddedUpTo Anything l.fn.batch l.batch (key_column_rows l.columns l.id l.key l.parents) l.names l.name-index l.place
