use Rattle.std.proofs.Common.{◌≡◌, ◌++◌}
use Rattle.std.specs.FinMap as finite_map
use Rattle.dd_catalog.specs.Catalog.{names_among}
use Rattle.plain_catalog.proofs.listed.names_in.Given as goal

abbrev pub invariant-objects : goal.invariant-objects
invariant-objects l = l.names ++ names_among l.schema l.name-iterator ≡ names_among l.schema (finite_map.entries l.objects)
