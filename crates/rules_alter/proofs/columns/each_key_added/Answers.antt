use Rattle.std.proofs.Common.{◌<◌, length, arith}
use Rattle.std.proofs.lemmas.Result.{err_from_is_err_and}
use Rattle.dd_catalog.specs.LoopLaws.{over_step, over_stop}
use Rattle.rules_alter.specs.Keys.{key_added}
use Rattle.rules_alter.proofs.columns.each_key_added.Goals as goal

pub returns-in_err-key_added : goal.returns-in_err-key_added
returns-in_err-key_added c look =
    let lt : c.keys.key-index < length c.args.keys.now = omega arith in
    let p = err_from_is_err_and c.from_residual.result c.from_residual.ensures.1 in
    rw (p.1, p.2) (over_stop c.in_err-key_added.field-0.0 look (key_added c.args.nulls.now) c.args.keys.now c.keys.key-index c.key-item.result c.keys.parts _ lt c.key-item.is (c.in_err-key_added.ensures look) (c.keys.invariant look))

pub keys-preserved : goal.keys-preserved
keys-preserved c look =
    let lt : c.keys.key-index < length c.args.keys.now = omega arith in
    over_step look (key_added c.args.nulls.now) c.args.keys.now c.keys.key-index c.key-item.result c.keys.parts c.key_added.new.parts _ lt c.key-item.is (c.in_ok-key_added.ensures look) (c.keys.invariant look)
