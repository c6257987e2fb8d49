use Rattle.std.proofs.Common.{sym}
use Rattle.dd_catalog.specs.Sights.{sight}
use Rattle.dd_catalog.specs.Follow.{sights}
use Rattle.rules_outcome.specs.Decided.{choice_of}
use Rattle.rules_schema.proofs.AllGone.{all_go}
use Rattle.rules_schema.proofs.schemas.schema_gone.Goals as goal

pub returns-clause-exact : goal.returns-clause-exact
returns-clause-exact g c =
    sym (all_go (sights (g.L.Lookup.known c.args.look.now)) c.args.session.now c.args.name.now (sight c.in_ok-object.object.now) c.names_seen-names.result.now _ (choice_of c.in_ok-with_schema.field-0) c.in_ok-object.ensures.seen c.names_seen-names.ensures c.if-names-gt65536.false c.in_ok-puts.ensures.seen c.in_ok-puts.ensures.changes c.in_ok-with_schema.ensures.exact)

pub returns-clause-before : goal.returns-clause-before
returns-clause-before g c standing = c.in_ok-with_schema.ensures.before (g.L.Lookup.known c.args.look.now) c.in_ok-puts.ensures.before standing

pub returns-clause-ids : goal.returns-clause-ids
returns-clause-ids g c = c.in_ok-with_schema.ensures.ids (g.L.Lookup.known c.args.look.now) c.in_ok-puts.ensures.ids
