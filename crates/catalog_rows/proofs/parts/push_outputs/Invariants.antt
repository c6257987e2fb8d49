use Rattle.std.proofs.Common.{◌≡◌, ◌++◌, take}
use Rattle.std.specs.List.{flat_map, AllByRecursion}
use Rattle.catalog_rows.specs.Parts.{output_fields}
use Rattle.catalog_rows.specs.Stands.{FitsOutput}
use Rattle.catalog_rows.proofs.parts.push_outputs.Given as goal

abbrev pub invariant-each : goal.invariant-each
invariant-each l = record {
  fields : l.fields.items ≡ l.fn.fields.items ++ flat_map output_fields (take l.output-index l.outputs);
  fits : AllByRecursion FitsOutput (take l.output-index l.outputs);
}
