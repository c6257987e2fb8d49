use Rattle.std.proofs.Common.{◌<◌, ◌≤◌, length, arith}
use Rattle.std.proofs.lemmas.Result.{err_from_is_err_and}
use Rattle.dd_catalog.specs.LoopLaws.{every_step, every_stop, every_end}
use Rattle.rules_alter.specs.ForeignKeys.{pairs_on_fit}
use Rattle.rules_alter.proofs.foreign_keys.keys_fit.Goals as goal

pub returns-in_err-pairs_on_fit : goal.returns-in_err-pairs_on_fit
returns-in_err-pairs_on_fit c look =
    let lt : c.keys.key-index < length c.args.keys.now = omega arith in
    let p = err_from_is_err_and c.from_residual.result c.from_residual.ensures.1 in
    rw (p.1, p.2) (every_stop c.in_err-pairs_on_fit.field-0.0 look (pairs_on_fit c.args.child.now c.args.parts.now) c.args.keys.now c.keys.key-index c.key-item.result _ lt c.key-item.is (c.in_err-pairs_on_fit.ensures look) (c.keys.invariant look))

pub keys-preserved : goal.keys-preserved
keys-preserved c look =
    let lt : c.keys.key-index < length c.args.keys.now = omega arith in
    every_step look (pairs_on_fit c.args.child.now c.args.parts.now) c.args.keys.now c.keys.key-index c.key-item.result _ lt c.key-item.is (c.in_ok-pairs_on_fit.ensures look) (c.keys.invariant look)

pub returns : goal.returns
returns c look =
    let le : length c.args.keys.now ≤ c.keys.key-index = omega arith in
    every_end look (pairs_on_fit c.args.child.now c.args.parts.now) c.args.keys.now c.keys.key-index _ le (c.keys.invariant look)
