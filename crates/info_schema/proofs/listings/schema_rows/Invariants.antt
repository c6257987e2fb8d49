use Rattle.std.proofs.Common.{◌≡◌, map, take}
use Rattle.info_schema.specs.Tables.{schemata_row}
use Rattle.info_schema.proofs.listings.schema_rows.Given as goal

abbrev pub invariant-names : goal.invariant-names
invariant-names l = l.rows ≡ map schemata_row (take l.name-index l.names)
