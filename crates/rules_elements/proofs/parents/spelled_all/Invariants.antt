use Rattle.std.proofs.Common.{◌≡◌, take, map}
use Rattle.rules_elements.specs.ForeignKeys.{spelled}
use Rattle.rules_elements.proofs.parents.spelled_all.Given as goal

abbrev pub invariant-names : goal.invariant-names
invariant-names l = l.found ≡ map (spelled l.columns) (take l.name-index l.names)
