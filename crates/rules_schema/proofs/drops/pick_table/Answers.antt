use Rattle.std.proofs.Common.{refl}
use Rattle.rules_schema.proofs.drops.pick_table.Goals as goal

pub returns-clause-before : goal.returns-clause-before
returns-clause-before g c before = c.in_ok-add_edit.ensures.before (g.L.Lookup.known c.args.look.now) before (rw (c.in_ok-edit.ensures.edit, c.in_ok-copy.ensures, c.in_ok-seen.ensures.known) refl)

pub returns-clause-ids : goal.returns-clause-ids
returns-clause-ids g c ids =
    let known = g.L.Lookup.known c.args.look.now in
    c.in_ok-add_edit.ensures.ids known ids (c.in_ok-edit.ensures.ids known)
