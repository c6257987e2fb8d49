use Rattle.std.proofs.Common.{◌≡◌, drop}
use Rattle.dd_catalog.specs.Walks.{run, every}
use Rattle.dd_catalog.specs.Follow.{sights}
use Rattle.rules_schema.specs.Drops.{no_child_stays}
use Rattle.rules_schema.specs.Going.{goes}
use Rattle.rules_schema.proofs.drops.all_without_child.Given as goal

abbrev pub invariant-tables : goal.invariant-tables
invariant-tables g l = run (sights (g.L.Lookup.known l.look)) (every (no_child_stays (goes l.going)) (drop l.table-index l.tables)) ≡ run (sights (g.L.Lookup.known l.look)) (every (no_child_stays (goes l.going)) l.tables)
