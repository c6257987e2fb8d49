use Rattle.std.proofs.Common.{◌≡◌, drop}
use Rattle.dd_catalog.specs.Walks.{run, every}
use Rattle.dd_catalog.specs.Follow.{sights}
use Rattle.rules_named.specs.Named.{own_schema_there}
use Rattle.rules_alter_statements.proofs.names.all_schemas_there.Given as goal

abbrev pub invariant-names : goal.invariant-names
invariant-names g l = run (sights (g.L.Lookup.known l.look)) (every own_schema_there (drop l.name-index l.names)) ≡ run (sights (g.L.Lookup.known l.look)) (every own_schema_there l.names)
