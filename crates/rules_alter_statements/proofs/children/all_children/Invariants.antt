use Rattle.std.proofs.Common.{◌≡◌, [], drop}
use Rattle.dd_catalog.specs.Walks.{run, over}
use Rattle.dd_catalog.specs.Follow.{sights}
use Rattle.rules_alter.specs.Statements.{one_child}
use Rattle.rules_alter_statements.proofs.children.all_children.Given as goal

abbrev pub invariant-names : goal.invariant-names
invariant-names g l = run (sights (g.L.Lookup.known l.look)) (over one_child l.children (drop l.name-index l.names)) ≡ run (sights (g.L.Lookup.known l.look)) (over one_child [] l.names)
