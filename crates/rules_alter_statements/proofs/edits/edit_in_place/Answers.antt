use Rattle.std.proofs.Common.{◌≡◌, IfOk, ap, inl, inr, subst, sym}
use Rattle.dd_names.specs.declared.object_name.ObjName.{ObjName}
use Rattle.rules_alter_statements.proofs.edits.edit_in_place.Goals as goal

pub returns-in-Ok-clause-ids : goal.returns-in-Ok-clause-ids
returns-in-Ok-clause-ids g c =
    let known = g.L.Lookup.known c.args.look.now in
    let at = c.in_ok-ids.ensures.is_at in
    let ids = c.in_ok-ids.ids in
    let named : c.in-Ok.name ≡ c.args.name.now = subst (λ r. IfOk r (λ n. n ≡ c.args.name.now)) (c.in-Ok.ensures).0 c.copy.ensures in
    c.table_behind.ensures.ids known c.in-Ok.name ids.schema
    (inr (inl (c.args.name.now, ap (λ (o : ObjName). o.schema) (sym named), ids.id, ids.space, at.parts, at.is)))
    (record { name = c.args.name.now; parts = at.parts; is = at.is })
