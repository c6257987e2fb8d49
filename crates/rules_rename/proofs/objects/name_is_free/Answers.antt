use Rattle.std.proofs.Common.{ap, sym, subst}
use Rattle.std.specs.Prelude.{true, false}
use Rattle.std.proofs.lemmas.Result.{err_from_is_err_and}
use Rattle.dd_catalog.specs.Sights.{sight}
use Rattle.dd_catalog.specs.declared.stop.Stop.{Stop}
use Rattle.dd_catalog.specs.Walks.{run}
use Rattle.dd_catalog.specs.Follow.{Stops}
use Rattle.rules_rename.specs.Renames.{name_is_free}
use Rattle.rules_named.specs.Named.{is_nothing}
use Rattle.rules_rename.specs.Puts.{behind}
use Rattle.rules_rename.proofs.Sighted.{name_stops, name_tested, something}
use Rattle.rules_rename.proofs.objects.name_is_free.Goals as goal

pub returns-in_err-object_at : goal.returns-in_err-object_at
returns-in_err-object_at g c =
    let p = err_from_is_err_and c.from_residual.result c.from_residual.ensures.1 in
    rw (p.1, p.2) (name_stops (behind (g.L.Lookup.known c.args.look.now) c.args.overlay.now) c.args.to.now c.in_err-object_at.field-0.0 c.in_err-object_at.ensures.seen)

pub returns-in-Absent : goal.returns-in-Absent
returns-in-Absent g c = name_tested (behind (g.L.Lookup.known c.args.look.now) c.args.overlay.now) c.args.to.now (sight c.in_ok-object_at.field-0.now) true c.in_ok-object_at.ensures.seen (ap (λ o. is_nothing (sight o)) c.in-Absent.is)

pub returns-in_ok-table_exists-in_default : goal.returns-in_ok-table_exists-in_default
returns-in_ok-table_exists-in_default g c =
    subst (λ (stop : Stop). Stops stop (run (behind (g.L.Lookup.known c.args.look.now) c.args.overlay.now) (name_is_free c.args.to.now))) (sym c.in_ok-table_exists-in_default.ensures)
    (name_tested (behind (g.L.Lookup.known c.args.look.now) c.args.overlay.now) c.args.to.now (sight c.in_ok-object_at.field-0.now) false c.in_ok-object_at.ensures.seen (something c.in_ok-object_at.field-0.now c.in_default.not-Absent))
