use Rattle.std.proofs.Common.{ap, ◌∙◌}
use Rattle.std.specs.FinMap as finite_map
use Rattle.std.proofs.lemmas.Result.{on_ok_weaker, on_err_weaker}
use Rattle.dd_catalog.specs.Catalog.{Placed, object_cmp}
use Rattle.plain_catalog.specs.Objects.{map_of}
use Rattle.plain_catalog.proofs.ByName.{with_object}
use Rattle.plain_catalog.proofs.object_map.ObjectMap.insert.Goals as goal

pub invariant_of-self : goal.invariant_of-self
invariant_of-self c = (c.put.ensures.ordered c.self.invariant.0, c.put.ensures.indexed c.self.invariant.1)

pub returns-clause-ok : goal.returns-clause-ok
returns-clause-ok c =
    on_ok_weaker c.put.result
    (λ updates. with_object c.self.inside.objects.entries c.put.new.objects.entries c.args.name c.args.object c.self.invariant.0 (c.put.ensures.ordered c.self.invariant.0) updates
    ∙ ap (λ (m : finite_map.FinMap object_cmp Placed). finite_map.insert m c.args.name c.args.object) c.self.view_is)
    c.put.ensures.updates

pub returns-clause-err : goal.returns-clause-err
returns-clause-err c = on_err_weaker c.put.result (λ same. ap map_of same ∙ c.self.view_is) c.put.ensures.err
