use Rattle.std.proofs.Common.{Bool, subst}
use Rattle.std.specs.BTreeSet.{contains}
use Rattle.dd_names.specs.declared.object_name.ObjName.{ObjName}
use Rattle.dd_catalog.specs.Catalog.{object_cmp}
use Rattle.dd_catalog.specs.Walks.{run, every}
use Rattle.dd_catalog.specs.Follow.{Follows, sights}
use Rattle.rules_schema.specs.Drops.{is_among, no_child_stays}
use Rattle.rules_schema.proofs.drops.no_children_stay.Goals as goal

pub returns : goal.returns
returns g c =
    let look = sights (g.L.Lookup.known c.args.look.now) in
    subst (λ (leaves : ObjName → Bool). Follows (λ _. tt) c.all_without_child.result (run look (every (no_child_stays leaves) c.args.tables.now))) c.in_ok-names.ensures c.all_without_child.ensures
