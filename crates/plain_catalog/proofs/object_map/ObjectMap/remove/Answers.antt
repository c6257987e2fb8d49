use Rattle.std.proofs.Common.{ap, ◌∙◌}
use Rattle.std.specs.FinMap as finite_map
use Rattle.dd_catalog.specs.Catalog.{Placed, object_cmp}
use Rattle.plain_catalog.proofs.ByName.{without_object}
use Rattle.plain_catalog.proofs.object_map.ObjectMap.remove.Goals as goal

pub invariant_of-self : goal.invariant_of-self
invariant_of-self c = (c.take_out.ensures.ordered, c.take_out.ensures.indexed c.self.invariant.1)

pub returns : goal.returns
returns c =
    without_object c.self.inside.objects.entries c.take_out.new.objects.entries c.args.name.now c.self.invariant.0 c.take_out.ensures.ordered c.take_out.ensures.updates
    ∙ ap (λ (m : finite_map.FinMap object_cmp Placed). finite_map.remove m c.args.name.now) c.self.view_is
