-- What is kept of an object, as a catalog has it.
use Rattle.dd_catalog.specs.Catalog.{Placed, Table, View}
use Rattle.plain_catalog.specs.declared.stored.Kept.{Kept}
use Rattle.plain_catalog.specs.declared.stored.Kept.TheVariants as kept

abbrev pub placed_of : Kept → Placed
placed_of (kept.Table space def) = Table space def
placed_of (kept.View def) = View def
