use Rattle.std.proofs.Common.{◌≡◌, ◌∙◌, ap, sym, subst, Result}
use Rattle.std.specs.Prelude.{IfOk}
use Rattle.std.specs.declared.alloc.AllocError.{AllocError}
use Rattle.dd_names.specs.declared.object_name.ObjName.{ObjName}
use Rattle.dd_catalog.specs.declared.object.Object.{Object}
use Rattle.dd_catalog.specs.Walks.{fine}
use Rattle.rules_outcome.specs.Choices.{After}
use Rattle.rules_outcome.specs.Decided.{HasIdsAt}
use Rattle.rules_rename.specs.Left.{after_left, kept}
use Rattle.rules_rename.specs.Renames.{child_after}
use Rattle.std.proofs.lemmas.Result.{err_from_is_err_and}
use Rattle.dd_catalog.specs.Sights.{sight}
use Rattle.rules_rename.specs.Puts.{behind}
use Rattle.rules_rename.proofs.Sighted.{child_stops, child_made}
use Rattle.rules_rename.proofs.one_object.renamed_child.Goals as goal

pub returns-in_err-now-clause-exact : goal.returns-in_err-now-clause-exact
returns-in_err-now-clause-exact g c =
    let p = err_from_is_err_and c.from_residual.result c.from_residual.ensures.1 in
    rw (p.1, p.2) (child_stops (behind (g.L.Lookup.known c.args.look.now) c.args.overlay.now) c.args.from.now c.args.to.now c.args.child.now c.in_err-now.field-0.0 c.in_err-now.ensures.seen)

pub returns-clause-exact : goal.returns-clause-exact
returns-clause-exact g c =
    let pair = c.in_ok-both.field-0 in
    let name = subst (λ (r : Result ObjName AllocError). IfOk r (λ n. n ≡ c.args.child.now)) (c.in_ok-both.ensures).0 c.copy.ensures in
    let after = subst (λ (r : Result Object AllocError). IfOk r (λ left. after_left left ≡ child_after c.args.from.now c.args.to.now (sight c.in_ok-now.now.now))) (c.in_ok-both.ensures).1 c.child_after.ensures.after in
    child_made (behind (g.L.Lookup.known c.args.look.now) c.args.overlay.now) c.args.from.now c.args.to.now c.args.child.now (sight c.in_ok-now.now.now) c.in_ok-now.ensures.seen
    ∙ ap (λ (a : After). fine (c.args.child.now, a)) (sym after) ∙ ap (λ (n : ObjName). fine (n, after_left pair.1)) (sym name)

pub returns-clause-ids : goal.returns-clause-ids
returns-clause-ids g c = λ all.
    let known = g.L.Lookup.known c.args.look.now in
    let pair = c.in_ok-both.field-0 in
    let name = subst (λ (r : Result ObjName AllocError). IfOk r (λ n. n ≡ c.args.child.now)) (c.in_ok-both.ensures).0 c.copy.ensures in
    let has = subst (λ (r : Result Object AllocError). IfOk r (λ left. HasIdsAt known c.args.child.now (kept left))) (c.in_ok-both.ensures).1 (c.child_after.ensures.ids known c.args.child.now (c.in_ok-now.ensures.ids all)) in
    subst (λ (n : ObjName). HasIdsAt known n (kept pair.1)) (sym name) has
