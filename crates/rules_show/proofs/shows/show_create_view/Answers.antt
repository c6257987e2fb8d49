use Rattle.rules_show.proofs.shows.show_create_view.Goals as goal

pub returns-clause-before : goal.returns-clause-before
returns-clause-before g c = c.view_shown.ensures.before (g.L.Lookup.known c.args.look.now)

pub returns-clause-ids : goal.returns-clause-ids
returns-clause-ids g c = c.view_shown.ensures.ids (g.L.Lookup.known c.args.look.now)
