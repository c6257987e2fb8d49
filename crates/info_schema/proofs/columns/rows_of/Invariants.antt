use Rattle.std.proofs.Common.{◌≡◌, map, take}
use Rattle.info_schema.specs.Columns.{column_cells}
use Rattle.info_schema.proofs.columns.rows_of.Given as goal

abbrev pub invariant-columns : goal.invariant-columns
invariant-columns l = l.rows ≡ map (column_cells l.known_by l.indexes) (take l.column-index l.columns)
