use Rattle.std.proofs.Common.{◌≡◌, map, take}
use Rattle.rules_alter.specs.Altering.{renamed_index}
use Rattle.rules_alter.proofs.renames.indexes_renamed.Given as goal

abbrev pub invariant-indexes : goal.invariant-indexes
invariant-indexes l = l.found ≡ map (renamed_index l.from l.to) (take l.index-index l.indexes)
