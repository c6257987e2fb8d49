use Rattle.std.proofs.Common.{◌≡◌, [], drop}
use Rattle.dd_catalog.specs.Walks.{run, over}
use Rattle.dd_catalog.specs.Follow.{sights}
use Rattle.rules_rename.specs.Renames.{one_free}
use Rattle.rules_alter_statements.proofs.constraints.all_free.Given as goal

abbrev pub invariant-keys : goal.invariant-keys
invariant-keys g l = run (sights (g.L.Lookup.known l.look)) (over (one_free l.from l.to) l.free (drop l.key-index l.keys)) ≡ run (sights (g.L.Lookup.known l.look)) (over (one_free l.from l.to) [] l.keys)
