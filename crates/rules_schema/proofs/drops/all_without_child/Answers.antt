use Rattle.std.proofs.Common.{◌<◌, ◌≤◌, length, arith}
use Rattle.std.proofs.lemmas.Result.{err_from_is_err_and}
use Rattle.dd_catalog.specs.Follow.{sights}
use Rattle.dd_catalog.specs.LoopLaws.{every_step, every_stop, every_end}
use Rattle.rules_schema.specs.Drops.{no_child_stays}
use Rattle.rules_schema.specs.Going.{goes}
use Rattle.rules_schema.proofs.drops.all_without_child.Goals as goal

pub returns-in_err-no_child_stays : goal.returns-in_err-no_child_stays
returns-in_err-no_child_stays g c =
    let tables = c.args.tables.now in
    let lt : c.tables.table-index < length tables = omega arith in
    let p = err_from_is_err_and c.from_residual.result c.from_residual.ensures.1 in
    rw (p.1, p.2) (every_stop c.in_err-no_child_stays.field-0.0 (sights (g.L.Lookup.known c.args.look.now)) (no_child_stays (goes c.args.going.now)) tables c.tables.table-index c.table-item.result _ lt c.table-item.is c.in_err-no_child_stays.ensures c.tables.invariant)

pub tables-preserved : goal.tables-preserved
tables-preserved g c =
    let tables = c.args.tables.now in
    let lt : c.tables.table-index < length tables = omega arith in
    every_step (sights (g.L.Lookup.known c.args.look.now)) (no_child_stays (goes c.args.going.now)) tables c.tables.table-index c.table-item.result _ lt c.table-item.is c.in_ok-no_child_stays.ensures c.tables.invariant

pub returns : goal.returns
returns g c =
    let tables = c.args.tables.now in
    let le : length tables ≤ c.tables.table-index = omega arith in
    every_end (sights (g.L.Lookup.known c.args.look.now)) (no_child_stays (goes c.args.going.now)) tables c.tables.table-index _ le c.tables.invariant
