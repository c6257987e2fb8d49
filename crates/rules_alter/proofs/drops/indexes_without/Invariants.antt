use Rattle.std.proofs.Common.{◌≡◌, take}
use Rattle.std.specs.List.{flat_map}
use Rattle.rules_alter.specs.Columns.{index_without}
use Rattle.rules_alter.proofs.drops.indexes_without.Given as goal

abbrev pub invariant-indexes : goal.invariant-indexes
invariant-indexes l = l.found ≡ flat_map (index_without l.column) (take l.index-index l.indexes)
