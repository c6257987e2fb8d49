use Rattle.std.proofs.Common.{◌≡◌, drop}
use Rattle.dd_catalog.specs.Walks.{run, over}
use Rattle.dd_catalog.specs.Follow.{sights}
use Rattle.info_schema.specs.Listings.{with_object}
use Rattle.info_schema.proofs.listings.add_objects.Given as goal

abbrev pub invariant-names : goal.invariant-names
invariant-names g l = run (sights (g.L.Lookup.known l.look)) (over (with_object l.table l.schema) l.rows (drop l.name-index l.names)) ≡ run (sights (g.L.Lookup.known l.look)) (over (with_object l.table l.schema) l.fn.rows l.names)
