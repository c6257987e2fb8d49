use Rattle.std.proofs.Common.{◌∙◌, List, ap, sym, subst}
use Rattle.std.specs.Prelude.{map}
use Rattle.std.proofs.lemmas.Result.{err_from_is_err_and}
use Rattle.dd_names.specs.declared.object_name.ObjName.{ObjName}
use Rattle.dd_catalog.specs.declared.object.Object.{Object}
use Rattle.dd_catalog.specs.Walks.{fine}
use Rattle.rules_rename.specs.Puts.{Put, entry_of, behind}
use Rattle.rules_rename.proofs.Pair.{view_stays, view_not_free, view_made}
use Rattle.rules_rename.specs.Pairs.{moved_to}
use Rattle.rules_rename.specs.Ids.{AreWithIds}
use Rattle.rules_rename.proofs.Ids.{view_has_ids}
use Rattle.rules_rename.proofs.one_object.renamed_view.Goals as goal

pub returns-in_err-same_schema-clause-exact : goal.returns-in_err-same_schema-clause-exact
returns-in_err-same_schema-clause-exact g c =
    let look = behind (g.L.Lookup.known c.args.look.now) c.args.overlay.now in
    let p = err_from_is_err_and c.from_residual-in_err-same_schema.result c.from_residual-in_err-same_schema.ensures.1 in
    rw (p.1, p.2) (view_stays look c.args.from.now c.args.to.now c.args.def.now c.in_err-same_schema.field-0.0 (c.in_err-same_schema.ensures look))

pub returns-in_err-name_is_free-clause-exact : goal.returns-in_err-name_is_free-clause-exact
returns-in_err-name_is_free-clause-exact g c =
    let look = behind (g.L.Lookup.known c.args.look.now) c.args.overlay.now in
    let p = err_from_is_err_and c.from_residual-in_err-name_is_free.result c.from_residual-in_err-name_is_free.ensures.1 in
    rw (p.1, p.2) (view_not_free look c.args.from.now c.args.to.now c.args.def.now c.in_err-name_is_free.field-0.0 (c.in_ok-same_schema.ensures look) c.in_err-name_is_free.ensures)

pub returns-clause-exact : goal.returns-clause-exact
returns-clause-exact g c =
    let look = behind (g.L.Lookup.known c.args.look.now) c.args.overlay.now in
    view_made look c.args.from.now c.args.to.now c.args.def.now c.in_ok-view_named.field-0 c.args.id c.in_ok-schema.schema c.in_ok-moved.field-0 (c.in_ok-same_schema.ensures look) c.in_ok-name_is_free.ensures c.in_ok-view_named.ensures
    (c.in_ok-moved.ensures ∙ ap (λ (o : Object). moved_to c.args.from.now c.args.to.now o) c.view-after.ensures)
    ∙ ap (λ (children : List ObjName). fine (record { changes = map entry_of c.in_ok-moved.field-0; children = children })) (sym c.new.ensures)

pub returns-clause-ids : goal.returns-clause-ids
returns-clause-ids g c = λ stood.
    let known = g.L.Lookup.known c.args.look.now in
    let has = view_has_ids known c.args.to.now c.args.id c.in_ok-schema.schema c.in_ok-view_named.field-0 c.in_ok-schema.ensures stood in
    subst (AreWithIds known) (sym (c.in_ok-moved.ensures ∙ ap (λ (o : Object). moved_to c.args.from.now c.args.to.now o) c.view-after.ensures))
    (tt, (has, tt))
