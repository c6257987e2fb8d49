use Rattle.std.proofs.Common.{◌≡◌, take}
use Rattle.rules_alter.specs.Altering.{other_columns}
use Rattle.rules_alter.proofs.drops.other_columns.Given as goal

abbrev pub invariant-columns : goal.invariant-columns
invariant-columns l = l.others ≡ other_columns l.name (take l.column-index l.columns)
