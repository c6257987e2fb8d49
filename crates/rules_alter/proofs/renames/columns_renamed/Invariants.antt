use Rattle.std.proofs.Common.{◌≡◌, map, take}
use Rattle.rules_alter.specs.Altering.{renamed_column}
use Rattle.rules_alter.proofs.renames.columns_renamed.Given as goal

abbrev pub invariant-columns : goal.invariant-columns
invariant-columns l = l.found ≡ map (renamed_column l.from l.to) (take l.column-index l.columns)
