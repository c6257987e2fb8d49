use Rattle.rules_schema.proofs.drops.drop_table.Goals as goal

pub returns-clause-before : goal.returns-clause-before
returns-clause-before g c = c.in_ok-tables_gone.ensures.before (g.L.Lookup.known c.args.look.now) c.in_ok-tables.ensures.before

pub returns-clause-ids : goal.returns-clause-ids
returns-clause-ids g c = c.in_ok-tables_gone.ensures.ids (g.L.Lookup.known c.args.look.now) c.in_ok-tables.ensures.ids
