use Rattle.std.proofs.Common.{◌≡◌, Some, refl}
use Rattle.dd_names.specs.declared.object_name.ObjectKey.TheVariants as keys
use Rattle.dd_catalog.specs.declared.object.Object.TheVariants as objects
use Rattle.rules_tables.proofs.likes.like_named.Goals as goal

pub returns-in_ok-table_like-in-Absent-clause-before : goal.returns-in_ok-table_like-in-Absent-clause-before
returns-in_ok-table_like-in-Absent-clause-before g c =
    let known = g.L.Lookup.known c.args.look.now in
    let absent : known (keys.Object c.args.names.now.table.name) ≡ Some objects.Absent = rw (c.in_ok-object_at.ensures.known, c.in-Absent.is) refl in
    c.in_ok-table_like-in-Absent.ensures.before known absent

pub returns-in_ok-table_like-in-Absent-clause-ids : goal.returns-in_ok-table_like-in-Absent-clause-ids
returns-in_ok-table_like-in-Absent-clause-ids g c = c.in_ok-table_like-in-Absent.ensures.ids (g.L.Lookup.known c.args.look.now)
