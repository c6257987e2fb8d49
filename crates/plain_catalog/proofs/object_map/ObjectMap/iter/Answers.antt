use Rattle.std.proofs.Common.{ap, sym, ◌∙◌}
use Rattle.std.specs.FinMap as finite_map
use Rattle.dd_catalog.specs.Catalog.{Placed, object_cmp}
use Rattle.plain_catalog.proofs.ByName.{entries_of}
use Rattle.plain_catalog.proofs.object_map.ObjectMap.iter.Goals as goal

pub returns-clause-rest : goal.returns-clause-rest
returns-clause-rest c =
    c.iter.ensures.rest ∙ sym (entries_of c.self.inside.objects.entries c.self.invariant.0) ∙ ap (λ (m : finite_map.FinMap object_cmp Placed). finite_map.entries m) c.self.view_is
