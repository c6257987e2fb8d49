use Rattle.std.proofs.Common.{◌≡◌, ◌∙◌, ◌++◌, List, ap, sym, subst}
use Rattle.std.specs.Prelude.{map}
use Rattle.std.proofs.lemmas.Result.{err_from_is_err_and}
use Rattle.dd_names.specs.declared.object_name.ObjName.{ObjName}
use Rattle.dd_catalog.specs.declared.object.Object.{Object}
use Rattle.dd_catalog.specs.Walks.{run, each, fine}
use Rattle.dd_catalog.specs.Follow.{Stops}
use Rattle.rules_rename.specs.Renames.{renamed_child}
use Rattle.rules_rename.specs.Puts.{Put, entry_of, behind}
use Rattle.rules_rename.proofs.Pair.{table_not_free, table_keys_stop, table_look_stops, table_child_stops, table_made}
use Rattle.rules_rename.specs.Pairs.{moved_to}
use Rattle.rules_rename.specs.Ids.{AreWithIds}
use Rattle.rules_rename.proofs.Ids.{table_has_ids}
use Rattle.rules_rename.proofs.one_object.renamed_table.Goals as goal

pub returns-in_err-name_is_free-clause-exact : goal.returns-in_err-name_is_free-clause-exact
returns-in_err-name_is_free-clause-exact g c =
    let look = behind (g.L.Lookup.known c.args.look.now) c.args.overlay.now in
    let p = err_from_is_err_and c.from_residual-in_err-name_is_free.result c.from_residual-in_err-name_is_free.ensures.1 in
    rw (p.1, p.2) (table_not_free look c.args.from.now c.args.to.now c.args.ids.space c.args.def.now c.in_err-name_is_free.field-0.0 c.in_err-name_is_free.ensures)

pub returns-in_err-table-clause-exact : goal.returns-in_err-table-clause-exact
returns-in_err-table-clause-exact g c =
    let look = behind (g.L.Lookup.known c.args.look.now) c.args.overlay.now in
    let p = err_from_is_err_and c.from_residual-in_err-table.result c.from_residual-in_err-table.ensures.1 in
    rw (p.1, p.2) (table_keys_stop look c.args.from.now c.args.to.now c.args.ids.space c.args.def.now c.in_err-table.field-0.0 c.in_ok-name_is_free.ensures c.in_err-table.ensures.keys)

pub returns-in_err-children-clause-exact : goal.returns-in_err-children-clause-exact
returns-in_err-children-clause-exact g c =
    let look = behind (g.L.Lookup.known c.args.look.now) c.args.overlay.now in
    let p = err_from_is_err_and c.from_residual-in_err-children.result c.from_residual-in_err-children.ensures.1 in
    rw (p.1, p.2) (table_look_stops look c.args.from.now c.args.to.now c.args.ids.space c.args.def.now c.in_ok-table.table.foreign_keys c.in_err-children.field-0.0 c.in_ok-name_is_free.ensures c.in_ok-table.ensures.keys c.in_err-children.ensures)

pub returns-in_err-renamed_children-clause-exact : goal.returns-in_err-renamed_children-clause-exact
returns-in_err-renamed_children-clause-exact g c =
    let look = behind (g.L.Lookup.known c.args.look.now) c.args.overlay.now in
    let p = err_from_is_err_and c.from_residual-in_err-renamed_children.result c.from_residual-in_err-renamed_children.ensures.1 in
    rw (p.1, p.2) (table_child_stops look c.args.from.now c.args.to.now c.args.ids.space c.args.def.now c.in_ok-table.table.foreign_keys c.in_ok-children.children c.in_err-renamed_children.field-0.0 c.in_ok-name_is_free.ensures c.in_ok-table.ensures.keys c.in_ok-children.ensures
    (subst (λ (children : List ObjName). Stops c.in_err-renamed_children.field-0.0 (run look (each (renamed_child c.args.from.now c.args.to.now) children))) c.as_slice.ensures c.in_err-renamed_children.ensures.exact))

pub returns-clause-exact : goal.returns-clause-exact
returns-clause-exact g c =
    let look = behind (g.L.Lookup.known c.args.look.now) c.args.overlay.now in
    table_made look c.args.from.now c.args.to.now c.args.ids.space c.args.def.now c.in_ok-table.table c.args.ids.id c.in_ok-schema.schema c.in_ok-children.children c.in_ok-renamed_children.field-0 c.append.new.self
    c.in_ok-name_is_free.ensures c.in_ok-table.ensures.keys c.in_ok-table.ensures.rest c.in_ok-children.ensures
    (subst (λ (children : List ObjName). run look (each (renamed_child c.args.from.now c.args.to.now) children) ≡ fine (map entry_of c.in_ok-renamed_children.field-0)) c.as_slice.ensures c.in_ok-renamed_children.ensures.exact)
    (c.in_ok-append.ensures.ok ∙ ap (λ (puts : List Put). puts ++ c.in_ok-renamed_children.field-0) c.in_ok-changes.ensures
    ∙ ap (λ (o : Object). moved_to c.args.from.now c.args.to.now o ++ c.in_ok-renamed_children.field-0) c.table-after.ensures)

pub returns-clause-ids : goal.returns-clause-ids
returns-clause-ids g c = λ stood all.
    let known = g.L.Lookup.known c.args.look.now in
    let has = table_has_ids known c.args.to.now c.args.ids.id c.in_ok-schema.schema c.args.ids.space c.in_ok-table.table c.in_ok-schema.ensures stood in
    subst (AreWithIds known) (sym (c.in_ok-append.ensures.ok ∙ ap (λ (puts : List Put). puts ++ c.in_ok-renamed_children.field-0) c.in_ok-changes.ensures
    ∙ ap (λ (o : Object). moved_to c.args.from.now c.args.to.now o ++ c.in_ok-renamed_children.field-0) c.table-after.ensures))
    (tt, (has, c.in_ok-renamed_children.ensures.ids all))
