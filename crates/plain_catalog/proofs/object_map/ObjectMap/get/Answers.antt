use Rattle.std.proofs.Common.{ap, sym, ◌∙◌}
use Rattle.std.specs.FinMap as finite_map
use Rattle.dd_catalog.specs.Catalog.{Placed, object_cmp}
use Rattle.plain_catalog.proofs.ByName.{got_at}
use Rattle.plain_catalog.proofs.object_map.ObjectMap.get.Goals as goal

pub returns : goal.returns
returns c =
    let q = c.args.name.now in
    c.get.ensures.value ∙ sym (got_at c.self.inside.objects.entries q c.self.invariant.0) ∙ ap (λ (m : finite_map.FinMap object_cmp Placed). finite_map.get m q) c.self.view_is
