use Rattle.rules_create.proofs.tables.new_table.Goals as goal

pub returns-clause-before : goal.returns-clause-before
returns-clause-before g c = λ absent. c.in_ok-table_made.ensures.before (g.L.Lookup.known c.args.look.now) absent

pub returns-clause-ids : goal.returns-clause-ids
returns-clause-ids g c = λ known. c.in_ok-table_made.ensures.ids (g.L.Lookup.known c.args.look.now) known
