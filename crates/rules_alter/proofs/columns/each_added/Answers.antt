use Rattle.std.proofs.Common.{◌<◌, length, arith}
use Rattle.std.proofs.lemmas.Result.{err_from_is_err_and}
use Rattle.dd_catalog.specs.LoopLaws.{over_step, over_stop}
use Rattle.std.specs.Prelude.{None}
use Rattle.rules_alter.specs.Columns.{column_added}
use Rattle.rules_alter.proofs.columns.each_added.Goals as goal

pub returns-in_err-column_added : goal.returns-in_err-column_added
returns-in_err-column_added c look =
    let lt : c.columns.words-index < length c.args.columns.now = omega arith in
    let p = err_from_is_err_and c.from_residual.result c.from_residual.ensures.1 in
    rw (p.1, p.2) (over_stop c.in_err-column_added.field-0.0 look (column_added None) c.args.columns.now c.columns.words-index c.words-item.result c.columns.state _ lt c.words-item.is (c.in_err-column_added.ensures look) (c.columns.invariant look))

pub columns-preserved : goal.columns-preserved
columns-preserved c look =
    let lt : c.columns.words-index < length c.args.columns.now = omega arith in
    over_step look (column_added None) c.args.columns.now c.columns.words-index c.words-item.result c.columns.state c.column_added.new.state _ lt c.words-item.is (c.in_ok-column_added.ensures look) (c.columns.invariant look)
