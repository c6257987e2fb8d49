use Rattle.std.proofs.Common.{◌≡◌, ◌∙◌, IfOk, ap, inl, subst}
use Rattle.dd_names.specs.declared.object_name.ObjName.{ObjName}
use Rattle.dd_names.specs.declared.object_name.ObjectKey.TheVariants as keys
use Rattle.rules_alter_statements.proofs.edits.edit_moved.Goals as goal

pub returns-in-Ok-clause-ids : goal.returns-in-Ok-clause-ids
returns-in-Ok-clause-ids g c =
    let known = g.L.Lookup.known c.args.look.now in
    let at = c.in_ok-ids.ensures.is_at in
    let ids = c.in_ok-ids.ids in
    let named : c.in-Ok.name ≡ c.args.to.now = subst (λ r. IfOk r (λ n. n ≡ c.args.to.now)) (c.in-Ok.ensures).0 c.copy.ensures in
    c.table_behind.ensures.ids known c.in-Ok.name ids.schema
    (inl (ap (λ (o : ObjName). known (keys.Schema o.schema)) named ∙ c.in_ok-ids-2.ensures))
    (record { name = c.args.from.now; parts = at.parts; is = at.is })
