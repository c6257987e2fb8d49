use Rattle.std.proofs.Common.{◌<◌, length, arith}
use Rattle.std.proofs.lemmas.Result.{err_from_is_err_and}
use Rattle.dd_catalog.specs.LoopLaws.{over_step, over_stop}
use Rattle.rules_elements.specs.Keys.{one_more}
use Rattle.rules_elements.proofs.keys.key_columns.Goals as goal

pub returns-in_err-one_more : goal.returns-in_err-one_more
returns-in_err-one_more c look =
    let lt : c.names.name-index < length c.args.names.now = omega arith in
    let p = err_from_is_err_and c.from_residual.result c.from_residual.ensures.1 in
    rw (p.1, p.2) (over_stop c.in_err-one_more.field-0.0 look (one_more c.args.columns.now) c.args.names.now c.names.name-index c.name-item.result c.names.found _ lt c.name-item.is (c.in_err-one_more.ensures look) (c.names.invariant look))

pub names-preserved : goal.names-preserved
names-preserved c look =
    let lt : c.names.name-index < length c.args.names.now = omega arith in
    over_step look (one_more c.args.columns.now) c.args.names.now c.names.name-index c.name-item.result c.names.found c.one_more.new.before _ lt c.name-item.is (c.in_ok-one_more.ensures look) (c.names.invariant look)
