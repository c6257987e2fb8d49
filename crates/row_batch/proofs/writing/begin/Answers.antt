use Rattle.std.proofs.Common.{List, ℕ, ◌++◌, arith, ap, ◌∙◌, length, length-append}
use Rattle.row_batch.proofs.Framing.{length-frame, head_is}
use Rattle.row_batch.proofs.writing.begin.Goals as goal

pub overflow_sub-size : goal.overflow_sub-size
overflow_sub-size c = omega (arith, length-frame c.args.operations.now, c.in-Some.ensures)

pub push-requires : goal.push-requires
push-requires c = omega (arith, length-frame c.args.operations.now, c.in-Some.ensures, c.in_ok-bytes.ensures.len, c.in_ok-bytes.ensures.exact, ap length c.to_be_bytes.ensures)

pub push-requires-2 : goal.push-requires-2
push-requires-2 c =
    omega (arith, length-frame c.args.operations.now, c.in-Some.ensures, ap length c.in_ok-bytes.ensures.items, c.in_ok-bytes.ensures.exact, ap length c.to_be_bytes.ensures, ap length c.to_be_bytes-2.ensures, ap length c.push.ensures.items, length-append c.in_ok-bytes.bytes.items c.to_be_bytes.result, c.push.ensures.capacity)

pub returns-clause-head : goal.returns-clause-head
returns-clause-head c =
    c.push-2.ensures.items ∙ ap (λ (front : List ℕ). front ++ c.to_be_bytes-2.result) (c.push.ensures.items ∙ ap (λ (front : List ℕ). front ++ c.to_be_bytes.result) c.in_ok-bytes.ensures.items)
    ∙ head_is c.args.operations.now c.in-Some.size c.to_be_bytes.result c.to_be_bytes-2.result c.in-Some.ensures c.to_be_bytes.ensures c.to_be_bytes-2.ensures
