use Rattle.std.proofs.Common.{◌≡◌, ◌<◌, ◌-◌, suc, [], ◌∷◌, ◌++◌, ◌∙◌, ap, sym, subst, length, arith}
use Rattle.std.proofs.lemmas.Result.{err_from_is_err_and}
use Rattle.dd_catalog.specs.Follow.{sights, Stops}
use Rattle.dd_catalog.specs.LoopLaws.{over_step, over_stop}
use Rattle.dd_catalog.specs.Walks.{run}
use Rattle.rules_views.specs.Columns.{one_source, source_seen, through_sources}
use Rattle.rules_views.proofs.Below.{whole_below}
use Rattle.rules_views.proofs.columns.+sources.Goals as goal

pub all_sources-returns-in_err-add_source-clause-exact : goal.all_sources-returns-in_err-add_source-clause-exact
all_sources-returns-in_err-add_source-clause-exact g n c =
    let lt : c.sources.source-index < length c.args.sources.now = omega arith in
    let p = err_from_is_err_and c.from_residual.result c.from_residual.ensures.1 in
    rw (p.1, p.2) (over_stop c.in_err-add_source.field-0.0 (sights (g.L.Lookup.known c.args.look.now)) (one_source (source_seen c.args.left c.args.asked.now c.args.search.now.way.items)) c.args.sources.now c.sources.source-index c.source-item.result _ _ lt c.source-item.is (rw (← c.sources.invariant.way) c.in_err-add_source.ensures.exact) c.sources.invariant.exact)

pub all_sources-sources-preserved : goal.all_sources-sources-preserved
all_sources-sources-preserved g n c =
    let lt : c.sources.source-index < length c.args.sources.now = omega arith in
    record {
      exact = over_step (sights (g.L.Lookup.known c.args.look.now)) (one_source (source_seen c.args.left c.args.asked.now c.args.search.now.way.items)) c.args.sources.now c.sources.source-index c.source-item.result _ _ _ lt c.source-item.is (rw (← c.sources.invariant.way) c.in_ok-add_source.ensures.exact) c.sources.invariant.exact;
      way = c.in_ok-add_source.ensures.way ∙ c.sources.invariant.way;
      height = c.in_ok-add_source.ensures.height c.sources.invariant.height;
    }

pub view_whole-returns-in_err-shown-clause-exact : goal.view_whole-returns-in_err-shown-clause-exact
view_whole-returns-in_err-shown-clause-exact g n c =
    let p = err_from_is_err_and c.from_residual-in_err-shown.result c.from_residual-in_err-shown.ensures.1 in
    let less : c.args.left ≡ suc (c.args.left - 1) = omega arith in
    let below = whole_below c.args.left (c.args.left - 1) less c.args.asked.now c.args.search.now.way.items c.args.search.now.finds.entries c.args.name.now c.args.parts.now in
    let look = sights (g.L.Lookup.known c.args.look.now) in
    let way = c.in_ok-push.ensures.items ∙ ap (λ name. c.args.search.now.way.items ++ name ∷ []) c.in_ok-copy.ensures in
    rw (p.1, p.2) (subst (λ check. Stops c.in_err-shown.field-0.0 (run look check)) (sym below)
    (subst (λ way. Stops c.in_err-shown.field-0.0 (run look (through_sources (source_seen (c.args.left - 1) c.args.asked.now way) c.args.asked.now c.args.search.now.finds.entries c.args.name.now c.args.parts.now))) way c.in_err-shown.ensures.exact))
