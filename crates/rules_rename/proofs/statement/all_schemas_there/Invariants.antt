use Rattle.std.proofs.Common.{◌≡◌, drop}
use Rattle.dd_catalog.specs.Walks.{run, every}
use Rattle.dd_catalog.specs.Follow.{sights}
use Rattle.rules_rename.specs.Renames.{schemas_there}
use Rattle.rules_rename.proofs.statement.all_schemas_there.Given as goal

abbrev pub invariant-pairs : goal.invariant-pairs
invariant-pairs g l = run (sights (g.L.Lookup.known l.look)) (every schemas_there (drop l.pair-index l.pairs)) ≡ run (sights (g.L.Lookup.known l.look)) (every schemas_there l.pairs)
