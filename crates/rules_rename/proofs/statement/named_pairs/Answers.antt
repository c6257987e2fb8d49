use Rattle.std.proofs.Common.{◌<◌, length, arith}
use Rattle.std.proofs.lemmas.Result.{err_from_is_err_and}
use Rattle.dd_catalog.specs.LoopLaws.{each_step, each_stop}
use Rattle.rules_rename.specs.Renames.{named_pair}
use Rattle.rules_rename.proofs.statement.named_pairs.Goals as goal

pub returns-in_err-named_pair : goal.returns-in_err-named_pair
returns-in_err-named_pair c look =
    let lt : c.pairs.pair-index < length c.args.pairs.now = omega arith in
    let p = err_from_is_err_and c.from_residual.result c.from_residual.ensures.1 in
    rw (p.1, p.2) (each_stop c.in_err-named_pair.field-0.0 look (named_pair c.args.current.now) c.args.pairs.now c.pairs.pair-index c.pair-item.result c.pairs.named _ lt c.pair-item.is (c.in_err-named_pair.ensures look) (c.pairs.invariant look))

pub pairs-preserved : goal.pairs-preserved
pairs-preserved c look =
    let lt : c.pairs.pair-index < length c.args.pairs.now = omega arith in
    rw (c.in_ok-push.ensures.ok) (each_step look (named_pair c.args.current.now) c.args.pairs.now c.pairs.pair-index c.pair-item.result c.in_ok-named_pair.field-0 c.pairs.named _ lt c.pair-item.is (c.in_ok-named_pair.ensures look) (c.pairs.invariant look))
