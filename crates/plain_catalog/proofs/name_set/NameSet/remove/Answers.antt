use Rattle.std.proofs.Common.{ap, ◌∙◌}
use Rattle.std.specs.FinMap as finite_map
use Rattle.dd_catalog.specs.Catalog.{NameSet}
use Rattle.plain_catalog.proofs.Sorted.{removed}
use Rattle.plain_catalog.proofs.name_set.NameSet.remove.Goals as goal

pub invariant_of-self : goal.invariant_of-self
invariant_of-self c = (removed c.self.inside.names.keys c.args.name.now c.remove.new.self.keys c.self.invariant c.remove.ensures.ordered c.remove.ensures.updates.0).sorted

pub returns : goal.returns
returns c =
    (removed c.self.inside.names.keys c.args.name.now c.remove.new.self.keys c.self.invariant c.remove.ensures.ordered c.remove.ensures.updates.0).same
    ∙ ap (λ (m : NameSet). finite_map.remove m c.args.name.now) c.self.view_is
