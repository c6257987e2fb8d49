use Rattle.std.proofs.Common.{◌≡◌, ◌++◌, take}
use Rattle.std.specs.List.{flat_map, AllByRecursion}
use Rattle.catalog_rows.specs.Parts.{source_fields}
use Rattle.catalog_rows.specs.Stands.{FitsSource}
use Rattle.catalog_rows.proofs.parts.push_sources.Given as goal

abbrev pub invariant-each : goal.invariant-each
invariant-each l = record {
  fields : l.fields.items ≡ l.fn.fields.items ++ flat_map source_fields (take l.source-index l.sources);
  fits : AllByRecursion FitsSource (take l.source-index l.sources);
}
