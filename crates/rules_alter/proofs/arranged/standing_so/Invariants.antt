use Rattle.std.proofs.Common.{◌≡◌, take}
use Rattle.rules_alter.specs.Arranged.{standing_so}
use Rattle.rules_alter.proofs.arranged.standing_so.Given as goal

abbrev pub invariant-indexes : goal.invariant-indexes
invariant-indexes l = l.found ≡ standing_so l.before l.columns (take l.index-index l.indexes) l.wanted
