use Rattle.std.proofs.Common.{◌≡◌, ◌++◌, take}
use Rattle.std.specs.Prelude.{flat_map}
use Rattle.show_text.specs.Tables.{column_line}
use Rattle.show_text.proofs.tables.push_more_columns.Given as goal

abbrev pub invariant-columns : goal.invariant-columns
invariant-columns l = l.out ≡ l.fn.out ++ flat_map column_line (take l.column-index l.columns)
