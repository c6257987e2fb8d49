use Rattle.std.proofs.Common.{◌<◌, ◌≤◌, length, arith}
use Rattle.std.proofs.lemmas.Result.{err_from_is_err_and}
use Rattle.dd_catalog.specs.LoopLaws.{every_step, every_stop, every_end}
use Rattle.rules_alter.specs.ForeignKeys.{child_fits}
use Rattle.rules_alter.proofs.foreign_keys.children_fit.Goals as goal

pub returns-in_err-child_fits : goal.returns-in_err-child_fits
returns-in_err-child_fits c look =
    let lt : c.children.child-index < length c.args.children.now = omega arith in
    let p = err_from_is_err_and c.from_residual.result c.from_residual.ensures.1 in
    rw (p.1, p.2) (every_stop c.in_err-child_fits.field-0.0 look (child_fits c.args.parts.now) c.args.children.now c.children.child-index c.child-item.result _ lt c.child-item.is (c.in_err-child_fits.ensures look) (c.children.invariant look))

pub children-preserved : goal.children-preserved
children-preserved c look =
    let lt : c.children.child-index < length c.args.children.now = omega arith in
    every_step look (child_fits c.args.parts.now) c.args.children.now c.children.child-index c.child-item.result _ lt c.child-item.is (c.in_ok-child_fits.ensures look) (c.children.invariant look)

pub returns : goal.returns
returns c look =
    let le : length c.args.children.now ≤ c.children.child-index = omega arith in
    every_end look (child_fits c.args.parts.now) c.args.children.now c.children.child-index _ le (c.children.invariant look)
