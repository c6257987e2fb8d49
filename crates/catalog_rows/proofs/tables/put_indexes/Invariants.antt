use Rattle.catalog_rows.specs.Lists.{index_rows}
use Rattle.catalog_rows.specs.Stands.{FitsIndex}
use Rattle.catalog_rows.proofs.Adding.{AddedUpTo}
use Rattle.catalog_rows.proofs.tables.put_indexes.Given as goal

abbrev pub invariant-each : goal.invariant-each
invariant-each l = AddedUpTo FitsIndex l.fn.batch l.batch (index_rows l.columns l.id) l.indexes l.index-index l.place
