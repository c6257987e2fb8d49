use Rattle.std.proofs.Common.{◌≡◌, ◌++◌, take}
use Rattle.std.specs.List.{flat_map}
use Rattle.dd_definitions.specs.declared.indexes.IndexDef.{IndexDef}
use Rattle.info_schema.specs.Tables.{rows_from, statistics_row}
use Rattle.info_schema.proofs.objects.push_indexes.Given as goal

abbrev pub invariant-indexes : goal.invariant-indexes
invariant-indexes l = l.rows ≡ l.fn.rows ++ flat_map (λ (index : IndexDef). rows_from (statistics_row l.name index) 0 index.columns) (take l.index-index l.indexes)
