use Rattle.std.proofs.Common.{◌≡◌, drop}
use Rattle.dd_catalog.specs.Walks.{run, every}
use Rattle.dd_catalog.specs.Follow.{sights}
use Rattle.rules_named.specs.Named.{own_schema_there}
use Rattle.rules_named.proofs.named.own_schemas_there.Given as goal

abbrev pub invariant-objects : goal.invariant-objects
invariant-objects g l = run (sights (g.L.Lookup.known l.look)) (every own_schema_there (drop l.object-index l.objects)) ≡ run (sights (g.L.Lookup.known l.look)) (every own_schema_there l.objects)
