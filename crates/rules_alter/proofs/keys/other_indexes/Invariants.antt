use Rattle.std.proofs.Common.{◌≡◌, take}
use Rattle.rules_alter.specs.Keys.{other_indexes}
use Rattle.rules_alter.proofs.keys.other_indexes.Given as goal

abbrev pub invariant-indexes : goal.invariant-indexes
invariant-indexes l = l.others ≡ other_indexes l.name (take l.index-index l.indexes)
