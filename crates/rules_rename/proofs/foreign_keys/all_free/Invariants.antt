use Rattle.std.proofs.Common.{◌≡◌, [], drop}
use Rattle.dd_catalog.specs.Walks.{run, over}
use Rattle.rules_rename.specs.Renames.{one_free}
use Rattle.rules_rename.specs.Puts.{behind}
use Rattle.rules_rename.proofs.foreign_keys.all_free.Given as goal

abbrev pub invariant-keys : goal.invariant-keys
invariant-keys g l = run (behind (g.L.Lookup.known l.look) l.overlay) (over (one_free l.from l.to) l.free (drop l.key-index l.keys)) ≡ run (behind (g.L.Lookup.known l.look) l.overlay) (over (one_free l.from l.to) [] l.keys)
