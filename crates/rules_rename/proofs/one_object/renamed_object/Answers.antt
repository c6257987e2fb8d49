use Rattle.std.proofs.Common.{sym, subst}
use Rattle.std.proofs.lemmas.Result.{err_from_is_err_and}
use Rattle.dd_catalog.specs.Sights.{sight}
use Rattle.dd_catalog.specs.Follow.{Follows}
use Rattle.rules_rename.specs.Puts.{behind}
use Rattle.rules_rename.specs.Pairs.{renamed_of}
use Rattle.rules_rename.proofs.Pair.{object_stops, object_goes_on}
use Rattle.rules_rename.proofs.one_object.renamed_object.Goals as goal

pub returns-in_err-now-clause-exact : goal.returns-in_err-now-clause-exact
returns-in_err-now-clause-exact g c =
    let p = err_from_is_err_and c.from_residual.result c.from_residual.ensures.1 in
    rw (p.1, p.2) (object_stops (behind (g.L.Lookup.known c.args.look.now) c.args.overlay.now) c.args.from.now c.args.to.now c.in_err-now.field-0.0 c.in_err-now.ensures.seen)

pub returns-clause-exact : goal.returns-clause-exact
returns-clause-exact g c =
    subst (Follows renamed_of c.renamed_seen.result) (sym (object_goes_on (behind (g.L.Lookup.known c.args.look.now) c.args.overlay.now) c.args.from.now c.args.to.now (sight c.in_ok-now.now.now) c.in_ok-now.ensures.seen)) c.renamed_seen.ensures.exact

pub returns-clause-ids : goal.returns-clause-ids
returns-clause-ids g c = λ all. c.renamed_seen.ensures.ids (c.in_ok-now.ensures.ids all) all
