use Rattle.std.proofs.Common.{◌≡◌, map, take}
use Rattle.rules_alter.specs.Keys.{with_name}
use Rattle.rules_alter.proofs.keys.with_names.Given as goal

abbrev pub invariant-indexes : goal.invariant-indexes
invariant-indexes l = l.found ≡ map (with_name l.from l.to) (take l.index-index l.indexes)
