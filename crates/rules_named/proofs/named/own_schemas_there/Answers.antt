use Rattle.std.proofs.Common.{◌<◌, ◌≤◌, length, arith}
use Rattle.std.proofs.lemmas.Result.{err_from_is_err_and}
use Rattle.dd_catalog.specs.Follow.{sights}
use Rattle.dd_catalog.specs.LoopLaws.{every_step, every_stop, every_end}
use Rattle.rules_named.specs.Named.{own_schema_there}
use Rattle.rules_named.proofs.named.own_schemas_there.Goals as goal

pub returns-in_err-schema_there : goal.returns-in_err-schema_there
returns-in_err-schema_there g c =
    let lt : c.objects.object-index < length c.args.objects.now = omega arith in
    let p = err_from_is_err_and c.from_residual.result c.from_residual.ensures.1 in
    rw (p.1, p.2) (every_stop c.in_err-schema_there.field-0.0 (sights (g.L.Lookup.known c.args.look.now)) own_schema_there c.args.objects.now c.objects.object-index c.object-item.result _ lt c.object-item.is c.in_err-schema_there.ensures.seen c.objects.invariant)

pub objects-preserved : goal.objects-preserved
objects-preserved g c =
    let lt : c.objects.object-index < length c.args.objects.now = omega arith in
    every_step (sights (g.L.Lookup.known c.args.look.now)) own_schema_there c.args.objects.now c.objects.object-index c.object-item.result _ lt c.object-item.is c.in_ok-schema_there.ensures.seen c.objects.invariant

pub returns : goal.returns
returns g c =
    let le : length c.args.objects.now ≤ c.objects.object-index = omega arith in
    every_end (sights (g.L.Lookup.known c.args.look.now)) own_schema_there c.args.objects.now c.objects.object-index _ le c.objects.invariant
