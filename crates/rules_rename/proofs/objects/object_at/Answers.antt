use Rattle.std.proofs.Common.{◌≡◌, sym, ◌∙◌, ap, subst}
use Rattle.std.proofs.lemmas.Result.{err_from_is_err_and}
use Rattle.dd_names.specs.declared.object_name.ObjectKey.TheVariants as keys
use Rattle.dd_catalog.specs.Sights.{Sight, sight}
use Rattle.dd_catalog.specs.Walks.{fine}
use Rattle.rules_outcome.specs.Decided.{HasIdsAt}
use Rattle.rules_rename.specs.Left.{after_left, kept}
use Rattle.rules_rename.proofs.Behind.{stops_too, object_kept, object_left}
use Rattle.rules_rename.proofs.Ids.{known_has_ids}
use Rattle.rules_rename.proofs.objects.object_at.Goals as goal

pub returns-in_err-known-clause-seen : goal.returns-in_err-known-clause-seen
returns-in_err-known-clause-seen g c =
    let p = err_from_is_err_and c.from_residual.result c.from_residual.ensures.1 in
    rw (p.1, p.2) (stops_too (g.L.Lookup.known c.args.look.now) c.args.overlay.now (keys.Object c.args.name.now) c.in_err-known.field-0.0 c.in_err-known.ensures.seen)

pub returns-in-None-clause-seen : goal.returns-in-None-clause-seen
returns-in-None-clause-seen g c =
    object_kept (g.L.Lookup.known c.args.look.now) c.args.overlay.now c.args.name.now c.in_ok-known.known.now c.left_at.ensures.in_order c.in_ok-known.ensures.known c.in-None.ensures.left

pub returns-in-Some-clause-seen : goal.returns-in-Some-clause-seen
returns-in-Some-clause-seen g c =
    object_left (g.L.Lookup.known c.args.look.now) c.args.overlay.now c.args.name.now c.in_ok-known.known.now (after_left c.in-Some.left.now) c.left_at.ensures.in_order c.in_ok-known.ensures.known c.in-Some.ensures.left
    ∙ ap (λ (s : Sight). fine s) (sym c.object.ensures.seen ∙ ap sight (sym c.object.ensures.value))

pub returns-in-None-clause-ids : goal.returns-in-None-clause-ids
returns-in-None-clause-ids g c = λ all. known_has_ids (g.L.Lookup.known c.args.look.now) c.args.name.now c.in_ok-known.known.now c.in_ok-known.ensures.known

pub returns-in-Some-clause-ids : goal.returns-in-Some-clause-ids
returns-in-Some-clause-ids g c = λ all.
    let known = g.L.Lookup.known c.args.look.now in
    subst (λ o. HasIdsAt known c.args.name.now (kept o)) (sym c.object.ensures.value) (c.in-Some.ensures.ids known all)
