use Rattle.std.proofs.Common.{refl, sym, subst, ◌∙◌, ap, Some}
use Rattle.dd_names.specs.declared.object_name.ObjectKey.TheVariants as keys
use Rattle.dd_catalog.specs.declared.object.Object.{Object}
use Rattle.rules_outcome.specs.Decided.{HasIds}
use Rattle.rules_outcome.specs.declared.decided.Edit.{Edit}
use Rattle.rules_tables.proofs.Ids.{emptied_has_ids}
use Rattle.rules_tables.proofs.truncates.truncate_seen.Goals as goal

pub returns-in_ok-one_edit-in-Table-clause-before : goal.returns-in_ok-one_edit-in-Table-clause-before
returns-in_ok-one_edit-in-Table-clause-before g c there =
    c.in_ok-one_edit-in-Table.ensures.before (g.L.Lookup.known c.args.look.now) (rw (c.in_ok-edit-in-Table.ensures, there) refl)

pub returns-in_ok-one_edit-in-Table-clause-ids : goal.returns-in_ok-one_edit-in-Table-clause-ids
returns-in_ok-one_edit-in-Table-clause-ids g c there =
    let known = g.L.Lookup.known c.args.look.now in
    let seen = there ∙ ap (λ (object : Object). Some object) c.in-Table.is in
    let ids = emptied_has_ids known c.args.table.now c.in-Table.id c.in-Table.schema c.in-Table.space c.in-Table.def seen in
    c.in_ok-one_edit-in-Table.ensures.ids known (subst (λ (edit : Edit). HasIds known edit.key edit.after) (sym c.in_ok-edit-in-Table.ensures) ids)
