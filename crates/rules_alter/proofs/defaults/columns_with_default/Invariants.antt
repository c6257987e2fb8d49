use Rattle.std.proofs.Common.{◌≡◌, map, take}
use Rattle.rules_alter.specs.Columns.{column_with_default}
use Rattle.rules_alter.proofs.defaults.columns_with_default.Given as goal

abbrev pub invariant-columns : goal.invariant-columns
invariant-columns l = l.found ≡ map (column_with_default l.name l.default) (take l.column-index l.columns)
