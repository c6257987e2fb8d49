use Rattle.std.proofs.Common.{◌<◌, length, arith}
use Rattle.std.proofs.lemmas.Result.{err_from_is_err_and}
use Rattle.dd_catalog.specs.LoopLaws.{each_step, each_stop}
use Rattle.rules_named.specs.Named.{resolved}
use Rattle.rules_alter_statements.proofs.names.each_resolved.Goals as goal

pub returns-in_err-resolved : goal.returns-in_err-resolved
returns-in_err-resolved c look =
    let lt : c.written.name-index < length c.args.written.now = omega arith in
    let p = err_from_is_err_and c.from_residual.result c.from_residual.ensures.1 in
    rw (p.1, p.2) (each_stop c.in_err-resolved.field-0.0 look (resolved c.args.current.now) c.args.written.now c.written.name-index c.name-item.result c.written.names _ lt c.name-item.is (c.in_err-resolved.ensures look) (c.written.invariant look))

pub written-preserved : goal.written-preserved
written-preserved c look =
    let lt : c.written.name-index < length c.args.written.now = omega arith in
    rw (c.in_ok-push.ensures.ok) (each_step look (resolved c.args.current.now) c.args.written.now c.written.name-index c.name-item.result c.in_ok-resolved.field-0 c.written.names _ lt c.name-item.is (c.in_ok-resolved.ensures look) (c.written.invariant look))
