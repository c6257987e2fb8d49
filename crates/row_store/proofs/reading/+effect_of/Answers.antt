use Rattle.std.proofs.Common.{List, subst, sym, arith}
use Rattle.std.specs.List.{AllByRecursion}
use Rattle.row_batch.specs.declared.operation.Operation.{Operation}
use Rattle.row_batch.specs.Batches.{BatchValue}
use Rattle.row_journal.specs.Contents.{IsSized}
use Rattle.row_journal.specs.Opening.{operations_of}
use Rattle.row_store.specs.Effects.{IsEffect}
use Rattle.row_store.proofs.Effects.{both_done, split_whole, sized_front, sized_back}
use Rattle.row_store.proofs.reading.+effect_of.Goals as goal

pub effect_of-requires : goal.effect_of-requires
effect_of-requires t c = (omega (arith, c.decreases, c.split_at.ensures.front_len, c.in_default.len_at_least), subst (λ (b : List BatchValue). AllByRecursion IsSized (operations_of b)) (sym c.split_at.ensures.front) (sized_front c.args.batches.now _ c.requires))

pub effect_of-requires-in_default : goal.effect_of-requires-in_default
effect_of-requires-in_default t c = (omega (arith, c.decreases, c.split_at.ensures.back_len, c.in_default.len_at_least), subst (λ (b : List BatchValue). AllByRecursion IsSized (operations_of b)) (sym c.split_at.ensures.back) (sized_back c.args.batches.now _ c.requires))

pub returns-in_ok-follow-in_default : goal.returns-in_ok-follow-in_default
returns-in_ok-follow-in_default t c =
    let first = c.in_ok-effect-in_default.effect in
    let second = c.in_ok-effect_of-in_default.field-0 in
    subst (λ (batches : List (List Operation)). IsEffect c.follow.new.effect.gone.items c.follow.new.effect.rows.items batches) (split_whole c.args.batches.now c.split_at.result.0.now c.split_at.result.1.now _ c.split_at.ensures.front c.split_at.ensures.back)
    (both_done (operations_of c.split_at.result.0.now) (operations_of c.split_at.result.1.now) first.gone.items second.gone.items c.follow.new.effect.gone.items first.rows.items second.rows.items c.follow.new.effect.rows.items
    c.in_ok-effect-in_default.ensures c.in_ok-effect_of-in_default.ensures c.in_ok-follow-in_default.ensures.rows c.in_ok-follow-in_default.ensures.order c.in_ok-follow-in_default.ensures.gone)
