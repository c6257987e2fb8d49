use Rattle.std.proofs.Common.{◌≡◌, drop}
use Rattle.dd_catalog.specs.Walks.{run, every}
use Rattle.dd_catalog.specs.Follow.{sights}
use Rattle.rules_alter.specs.ForeignKeys.{own_key_fits}
use Rattle.rules_alter.proofs.foreign_keys.own_keys_fit.Given as goal

abbrev pub invariant-keys : goal.invariant-keys
invariant-keys g l = run (sights (g.L.Lookup.known l.look)) (every (own_key_fits l.parts) (drop l.key-index l.keys)) ≡ run (sights (g.L.Lookup.known l.look)) (every (own_key_fits l.parts) l.keys)
