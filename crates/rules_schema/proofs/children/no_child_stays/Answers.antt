use Rattle.std.proofs.Common.{not, ap, ◌∙◌}
use Rattle.std.specs.List.{find}
use Rattle.dd_catalog.specs.Sights.{sight}
use Rattle.dd_catalog.specs.Follow.{sights}
use Rattle.rules_schema.specs.Going.{goes}
use Rattle.rules_schema.proofs.Staying.{staying_seen}
use Rattle.rules_schema.proofs.children.no_child_stays.Goals as goal

pub returns : goal.returns
returns g c =
    let look = sights (g.L.Lookup.known c.args.look.now) in
    let leaves = goes c.args.going.now in
    rw (← staying_seen look leaves c.args.table.now (sight c.in_ok-object.object.now) _ c.in_ok-object.ensures.seen (c.child_staying-staying.ensures ∙ ap (find (λ child. not (leaves child))) c.children_seen.ensures)) c.refuse_for.ensures
