use Rattle.rules_schema.proofs.schemas.object_gone.Goals as goal

pub returns-clause-ids : goal.returns-clause-ids
returns-clause-ids g c = c.in_ok-edit_gone.ensures.ids (g.L.Lookup.known c.args.look.now)
