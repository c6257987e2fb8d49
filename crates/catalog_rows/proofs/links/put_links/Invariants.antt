use Rattle.catalog_rows.specs.Lists.{link_rows}
use Rattle.catalog_rows.specs.Adding.{Anything}
use Rattle.catalog_rows.proofs.Adding.{AddedUpTo}
use Rattle.catalog_rows.proofs.links.put_links.Given as goal

abbrev pub invariant-each : goal.invariant-each
invariant-each l = AddedUpTo Anything l.fn.batch l.batch (link_rows l.name l.schema l.id) l.keys l.key-index l.place
