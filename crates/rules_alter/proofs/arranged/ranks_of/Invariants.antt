use Rattle.std.proofs.Common.{◌≡◌, map, take}
use Rattle.rules_alter.specs.Arranged.{ranked}
use Rattle.rules_alter.proofs.arranged.ranks_of.Given as goal

abbrev pub invariant-indexes : goal.invariant-indexes
invariant-indexes l = l.ranks ≡ map (ranked l.columns) (take l.index-index l.index-items)
