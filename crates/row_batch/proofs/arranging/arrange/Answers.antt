use Rattle.std.proofs.Common.{rules}
use Rattle.std.proofs.lemmas.Result.{on_ok_weaker}
use Rattle.std.proofs.lemmas.List.Sorted.{answers_always}
use Rattle.row_batch.specs.Order.{comes_before}
use Rattle.row_batch.proofs.Ordered.{operations_ranked, arranged_ok}
use Rattle.row_batch.proofs.arranging.arrange.Goals as goal

pub returns-clause-arranged : goal.returns-clause-arranged
returns-clause-arranged c =
    let by_order = answers_always _ _ _ (λ f a r q k. search rules) in
    arranged_ok c.sort_by.result c.args.operations.now.items c.sort_by.new.self.items c.sort_by.ensures.permutation (on_ok_weaker c.sort_by.result (λ sorted. sorted comes_before operations_ranked by_order) c.sort_by.ensures.sorted) (c.sort_by.ensures.stable comes_before operations_ranked by_order)
