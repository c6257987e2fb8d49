use Rattle.std.proofs.Common.{◌≡◌, [], drop}
use Rattle.dd_catalog.specs.Walks.{run, over}
use Rattle.dd_catalog.specs.Follow.{sights}
use Rattle.info_schema.specs.Listings.{with_schema}
use Rattle.info_schema.proofs.listings.schemas_rows.Given as goal

abbrev pub invariant-schemas : goal.invariant-schemas
invariant-schemas g l = run (sights (g.L.Lookup.known l.look)) (over (with_schema l.table) l.rows (drop l.schema-index l.schemas)) ≡ run (sights (g.L.Lookup.known l.look)) (over (with_schema l.table) [] l.schemas)
