use Rattle.std.proofs.Common.{List, sym, ap, subst, ◌∙◌, arith, length}
use Rattle.row_batch.specs.declared.operation.Operation.{Operation}
use Rattle.row_batch.specs.Order.{IsArranged}
use Rattle.row_batch.specs.Batches.{BatchValue, HasRoom, frame_head, frame}
use Rattle.row_batch.proofs.Ordered.{one_arrangement, stays_in_order}
use Rattle.row_batch.proofs.Meanings.{arranged_means, arranged_applied}
use Rattle.row_batch.proofs.Keeping.{room_arranged, kept_framed}
use Rattle.row_batch.proofs.Framing.{same_head, same_size}
use Rattle.row_batch.proofs.batch.Batch.frame.Goals as goal

pub finish-requires-clause-fits : goal.finish-requires-clause-fits
finish-requires-clause-fits c =
    subst HasRoom (sym c.deref-2.ensures.value) (room_arranged c.self.inside.operations.items c.arrange.new.operations.items c.in_ok-arrange.ensures.arranged.same c.self.invariant.room)

pub finish-requires-clause-head : goal.finish-requires-clause-head
finish-requires-clause-head c =
    c.in_ok-frame.ensures.head ∙ ap frame_head c.deref.ensures.value ∙ same_head c.self.inside.operations.items c.arrange.new.operations.items c.in_ok-arrange.ensures.arranged.same ∙ ap frame_head (sym c.deref-2.ensures.value)

pub finish-requires-clause-room : goal.finish-requires-clause-room
finish-requires-clause-room c =
    let now = ap (λ (xs : List Operation). length (frame xs)) c.deref-2.ensures.value in
    let before = ap (λ (xs : List Operation). length (frame xs)) c.deref.ensures.value in
    omega (arith, now, before, same_size c.self.inside.operations.items c.arrange.new.operations.items c.in_ok-arrange.ensures.arranged.same, c.in_ok-frame.ensures.room)

pub invariant_of-self-2 : goal.invariant_of-self-2
invariant_of-self-2 c =
    kept_framed c.self.inside.operations.items c.arrange.new.operations.items c.finish.new.bytes c.in_ok-arrange.ensures.arranged c.self.invariant.room (c.finish.ensures ∙ ap frame c.deref-2.ensures.value)

pub returns-clause-only : goal.returns-clause-only
returns-clause-only c = λ operations arranged.
    one_arrangement c.args.self.now.operations operations c.arrange.new.operations.items arranged (subst (λ (xs : List Operation). IsArranged xs c.arrange.new.operations.items) (ap (λ (v : BatchValue). v.operations) c.self.view_is) c.in_ok-arrange.ensures.arranged)

pub returns-clause-same : goal.returns-clause-same
returns-clause-same c =
    arranged_means c.args.self.now.operations c.arrange.new.operations.items (subst (λ (xs : List Operation). IsArranged xs c.arrange.new.operations.items) (ap (λ (v : BatchValue). v.operations) c.self.view_is) c.in_ok-arrange.ensures.arranged)

pub returns-clause-means : goal.returns-clause-means
returns-clause-means c =
    arranged_applied c.args.self.now.operations c.arrange.new.operations.items (subst (λ (xs : List Operation). IsArranged xs c.arrange.new.operations.items) (ap (λ (v : BatchValue). v.operations) c.self.view_is) c.in_ok-arrange.ensures.arranged)

pub returns-clause-in_order : goal.returns-clause-in_order
returns-clause-in_order c =
    stays_in_order c.args.self.now.operations c.arrange.new.operations.items (subst (λ (xs : List Operation). IsArranged xs c.arrange.new.operations.items) (ap (λ (v : BatchValue). v.operations) c.self.view_is) c.in_ok-arrange.ensures.arranged)
