use Rattle.std.proofs.Common.{◌<◌, length, arith}
use Rattle.std.proofs.lemmas.Result.{err_from_is_err_and}
use Rattle.dd_catalog.specs.LoopLaws.{each_step, each_stop}
use Rattle.rules_named.specs.Named.{resolved}
use Rattle.rules_named.proofs.named.all_resolved.Goals as goal

pub returns-in_err-resolved : goal.returns-in_err-resolved
returns-in_err-resolved c look =
    let lt : c.names.name-index < length c.args.named.now = omega arith in
    let p = err_from_is_err_and c.from_residual.result c.from_residual.ensures.1 in
    rw (p.1, p.2) (each_stop c.in_err-resolved.field-0.0 look (resolved c.args.current.now) c.args.named.now c.names.name-index c.name-item.result c.names.objects _ lt c.name-item.is (c.in_err-resolved.ensures look) (c.names.invariant look))

pub names-preserved : goal.names-preserved
names-preserved c look =
    let lt : c.names.name-index < length c.args.named.now = omega arith in
    rw (c.in_ok-push.ensures.ok) (each_step look (resolved c.args.current.now) c.args.named.now c.names.name-index c.name-item.result c.in_ok-resolved.field-0 c.names.objects _ lt c.name-item.is (c.in_ok-resolved.ensures look) (c.names.invariant look))
