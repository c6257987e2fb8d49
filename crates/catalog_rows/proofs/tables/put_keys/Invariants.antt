use Rattle.catalog_rows.specs.Lists.{key_rows}
use Rattle.catalog_rows.specs.Stands.{FitsKey}
use Rattle.catalog_rows.proofs.Adding.{AddedUpTo}
use Rattle.catalog_rows.proofs.tables.put_keys.Given as goal

abbrev pub invariant-each : goal.invariant-each
invariant-each l = AddedUpTo FitsKey l.fn.batch l.batch (key_rows l.columns l.id) l.keys l.key-index l.place
