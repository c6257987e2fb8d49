use Rattle.std.proofs.Common.{◌<◌, length, arith}
use Rattle.std.proofs.lemmas.Result.{err_from_is_err_and}
use Rattle.dd_catalog.specs.LoopLaws.{each_step, each_stop}
use Rattle.rules_views.specs.Columns.{one_output}
use Rattle.rules_views.proofs.columns.outputs.Goals as goal

pub returns-in_err-one_output : goal.returns-in_err-one_output
returns-in_err-one_output c =
    let lt : c.outputs.output-index < length c.args.outputs.now = omega arith in
    let p = err_from_is_err_and c.from_residual.result c.from_residual.ensures.1 in
    λ look. rw (p.1, p.2) (each_stop c.in_err-one_output.field-0.0 look (one_output c.args.asked.now c.args.shown.now) c.args.outputs.now c.outputs.output-index c.output-item.result c.outputs.columns _ lt c.output-item.is (c.in_err-one_output.ensures look) (c.outputs.invariant look))

pub outputs-preserved : goal.outputs-preserved
outputs-preserved c =
    let lt : c.outputs.output-index < length c.args.outputs.now = omega arith in
    λ look. rw c.in_ok-push.ensures.ok (each_step look (one_output c.args.asked.now c.args.shown.now) c.args.outputs.now c.outputs.output-index c.output-item.result c.in_ok-one_output.field-0 c.outputs.columns _ lt c.output-item.is (c.in_ok-one_output.ensures look) (c.outputs.invariant look))
