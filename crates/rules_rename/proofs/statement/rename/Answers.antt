use Rattle.std.proofs.Common.{◌≡◌, List, length, nat_lt, sym, ◌∙◌, ap, subst}
use Rattle.std.specs.Prelude.{map}
use Rattle.std.specs.List.{AllByRecursion}
use Rattle.std.proofs.lemmas.Result.{err_from_is_err_and}
use Rattle.dd_names.specs.declared.object_name.ObjName.{ObjName}
use Rattle.sql_ast.specs.declared.session.SessionState.{SessionState}
use Rattle.dd_catalog.specs.Walks.{fine, run, refuse_if, every, over}
use Rattle.dd_catalog.specs.Follow.{Stops, sights}
use Rattle.rules_outcome.specs.Choices.{Change, Changes}
use Rattle.rules_outcome.specs.Decided.{change_of, IsBefore, HasIds}
use Rattle.rules_outcome.specs.declared.decided.Edit.{Edit}
use Rattle.rules_refusals.specs.Refusals.{beyond_limit}
use Rattle.rules_rename.specs.Renames.{schemas_there, one_pair}
use Rattle.std.specs.FinMap as finite_map
use Rattle.rules_rename.specs.Overlays.{changes_in}
use Rattle.rules_rename.specs.Puts.{overlay_of}
use Rattle.rules_rename.specs.Pairs.{renaming_of}
use Rattle.rules_rename.proofs.Edits.{changes_told, edits_known}
use Rattle.rules_rename.proofs.Whole.{no_renaming, pairs_unnamed, schemas_stop, pairs_too_many, pairs_stop, children_too_many, all_renamed}
use Rattle.rules_rename.proofs.Ids.{edits_with_ids}
use Rattle.rules_rename.proofs.statement.rename.Goals as goal

pub returns-in_err-named-clause-exact : goal.returns-in_err-named-clause-exact
returns-in_err-named-clause-exact g c =
    let look = sights (g.L.Lookup.known c.args.look.now) in
    let p = err_from_is_err_and c.from_residual.result c.from_residual.ensures.1 in
    rw (p.1, p.2) (pairs_unnamed look c.args.session.now c.args.pairs.now c.in_err-named.field-0.0 (c.in_err-named.ensures look))

pub returns-in_err-all_schemas_there-clause-exact : goal.returns-in_err-all_schemas_there-clause-exact
returns-in_err-all_schemas_there-clause-exact g c =
    let look = sights (g.L.Lookup.known c.args.look.now) in
    let p = err_from_is_err_and c.from_residual-in_err-all_schemas_there.result c.from_residual-in_err-all_schemas_there.ensures.1 in
    rw (p.1, p.2) (schemas_stop look c.args.session.now c.args.pairs.now c.in_ok-named.named c.in_err-all_schemas_there.field-0.0 (c.in_ok-named.ensures look)
    (subst (λ (named : List (ObjName × ObjName)). Stops c.in_err-all_schemas_there.field-0.0 (run look (every schemas_there named))) c.as_slice.ensures c.in_err-all_schemas_there.ensures))

pub returns-in_err-allow_count-clause-exact : goal.returns-in_err-allow_count-clause-exact
returns-in_err-allow_count-clause-exact g c =
    let look = sights (g.L.Lookup.known c.args.look.now) in
    let p = err_from_is_err_and c.from_residual-in_err-allow_count.result c.from_residual-in_err-allow_count.ensures.1 in
    rw (p.1, p.2) (pairs_too_many look c.args.session.now c.args.pairs.now c.in_ok-named.named c.in_err-allow_count.field-0.0 (c.in_ok-named.ensures look)
    (subst (λ (named : List (ObjName × ObjName)). run look (every schemas_there named) ≡ fine tt) c.as_slice.ensures c.in_ok-all_schemas_there.ensures)
    (subst (λ count. Stops c.in_err-allow_count.field-0.0 (run look (refuse_if (nat_lt 4096 count) (beyond_limit "4096")))) c.len.ensures (c.in_err-allow_count.ensures look)))

pub returns-in_err-renaming-clause-exact : goal.returns-in_err-renaming-clause-exact
returns-in_err-renaming-clause-exact g c =
    let look = sights (g.L.Lookup.known c.args.look.now) in
    let p = err_from_is_err_and c.from_residual-in_err-renaming.result c.from_residual-in_err-renaming.ensures.1 in
    rw (p.1, p.2) (pairs_stop look c.args.session.now c.args.pairs.now c.in_ok-named.named c.in_err-renaming.field-0.0 (c.in_ok-named.ensures look)
    (subst (λ (named : List (ObjName × ObjName)). run look (every schemas_there named) ≡ fine tt) c.as_slice.ensures c.in_ok-all_schemas_there.ensures)
    (subst (λ count. run look (refuse_if (nat_lt 4096 count) (beyond_limit "4096")) ≡ fine tt) c.len.ensures (c.in_ok-allow_count.ensures look))
    (subst (λ (named : List (ObjName × ObjName)). Stops c.in_err-renaming.field-0.0 (run look (over one_pair no_renaming named))) c.as_slice-2.ensures c.in_err-renaming.ensures.exact))

pub returns-in_err-allow_count-2-clause-exact : goal.returns-in_err-allow_count-2-clause-exact
returns-in_err-allow_count-2-clause-exact g c =
    let look = sights (g.L.Lookup.known c.args.look.now) in
    let p = err_from_is_err_and c.from_residual-in_err-allow_count-2.result c.from_residual-in_err-allow_count-2.ensures.1 in
    rw (p.1, p.2) (children_too_many look c.args.session.now c.args.pairs.now c.in_ok-named.named (renaming_of c.in_ok-renaming.renaming) c.in_err-allow_count-2.field-0.0 (c.in_ok-named.ensures look)
    (subst (λ (named : List (ObjName × ObjName)). run look (every schemas_there named) ≡ fine tt) c.as_slice.ensures c.in_ok-all_schemas_there.ensures)
    (subst (λ count. run look (refuse_if (nat_lt 4096 count) (beyond_limit "4096")) ≡ fine tt) c.len.ensures (c.in_ok-allow_count.ensures look))
    (subst (λ (named : List (ObjName × ObjName)). run look (over one_pair no_renaming named) ≡ fine (renaming_of c.in_ok-renaming.renaming)) c.as_slice-2.ensures c.in_ok-renaming.ensures.exact)
    (subst (λ count. Stops c.in_err-allow_count-2.field-0.0 (run look (refuse_if (nat_lt 4096 count) (beyond_limit "4096")))) c.len-2.ensures (c.in_err-allow_count-2.ensures look)))

pub returns-clause-exact : goal.returns-clause-exact
returns-clause-exact g c =
    let look = sights (g.L.Lookup.known c.args.look.now) in
    sym (ap (λ (edits : List Edit). fine (Changes (map change_of edits) c.in_ok-copy.field-0)) c.in_ok-edits_of.ensures.edits
    ∙ ap (λ (changes : List Change). fine (Changes changes c.in_ok-copy.field-0)) (changes_told (g.L.Lookup.known c.args.look.now) c.in_ok-renaming.renaming.overlay c.in_ok-edits_of.ensures.in_order)
    ∙ ap (λ (session : SessionState). fine (Changes (changes_in (finite_map.entries (overlay_of c.in_ok-renaming.renaming.overlay))) session)) c.in_ok-copy.ensures
    ∙ sym (all_renamed look c.args.session.now c.args.pairs.now c.in_ok-named.named (renaming_of c.in_ok-renaming.renaming) (c.in_ok-named.ensures look)
    (subst (λ (named : List (ObjName × ObjName)). run look (every schemas_there named) ≡ fine tt) c.as_slice.ensures c.in_ok-all_schemas_there.ensures)
    (subst (λ count. run look (refuse_if (nat_lt 4096 count) (beyond_limit "4096")) ≡ fine tt) c.len.ensures (c.in_ok-allow_count.ensures look))
    (subst (λ (named : List (ObjName × ObjName)). run look (over one_pair no_renaming named) ≡ fine (renaming_of c.in_ok-renaming.renaming)) c.as_slice-2.ensures c.in_ok-renaming.ensures.exact)
    (subst (λ count. run look (refuse_if (nat_lt 4096 count) (beyond_limit "4096")) ≡ fine tt) c.len-2.ensures (c.in_ok-allow_count-2.ensures look))))

pub returns-clause-before : goal.returns-clause-before
returns-clause-before g c =
    subst (AllByRecursion (λ (edit : Edit). IsBefore (g.L.Lookup.known c.args.look.now edit.key) edit.before)) (sym c.in_ok-edits_of.ensures.edits)
    (edits_known (g.L.Lookup.known c.args.look.now) c.in_ok-renaming.renaming.overlay c.in_ok-edits_of.ensures.known)

pub returns-clause-ids : goal.returns-clause-ids
returns-clause-ids g c =
    subst (AllByRecursion (λ (edit : Edit). HasIds (g.L.Lookup.known c.args.look.now) edit.key edit.after)) (sym c.in_ok-edits_of.ensures.edits)
    (edits_with_ids (g.L.Lookup.known c.args.look.now) c.in_ok-renaming.renaming.overlay c.in_ok-renaming.ensures.ids)
