use Rattle.std.proofs.Common.{◌<◌, length, arith}
use Rattle.std.proofs.lemmas.Result.{err_from_is_err_and}
use Rattle.dd_catalog.specs.Follow.{sights}
use Rattle.dd_catalog.specs.LoopLaws.{picked_step, picked_stop}
use Rattle.rules_schema.specs.Drops.{is_there}
use Rattle.rules_schema.proofs.drops.tables_there.Goals as goal

pub returns-in_err-pick_table-clause-seen : goal.returns-in_err-pick_table-clause-seen
returns-in_err-pick_table-clause-seen g c =
    let objects = c.args.objects.now in
    let lt : c.objects.object-index < length objects = omega arith in
    let p = err_from_is_err_and c.from_residual.result c.from_residual.ensures.1 in
    rw (p.1, p.2) (picked_stop c.in_err-pick_table.field-0.0 (sights (g.L.Lookup.known c.args.look.now)) is_there objects c.objects.object-index c.object-item.result c.objects.tables.names _ lt c.object-item.is c.in_err-pick_table.ensures.seen c.objects.invariant.seen)

pub objects-preserved : goal.objects-preserved
objects-preserved g c =
    let objects = c.args.objects.now in
    let lt : c.objects.object-index < length objects = omega arith in
    record {
      seen = rw (c.in_ok-pick_table.ensures.names) (picked_step (sights (g.L.Lookup.known c.args.look.now)) is_there objects c.objects.object-index c.object-item.result c.in_ok-pick_table.field-0 c.objects.tables.names _ lt c.object-item.is c.in_ok-pick_table.ensures.seen c.objects.invariant.seen);
      changes = c.in_ok-pick_table.ensures.changes c.objects.invariant.changes;
      before = c.in_ok-pick_table.ensures.before c.objects.invariant.before;
      ids = c.in_ok-pick_table.ensures.ids c.objects.invariant.ids;
    }
