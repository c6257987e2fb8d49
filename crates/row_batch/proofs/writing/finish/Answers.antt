use Rattle.std.proofs.Common.{◌∷◌, [], ◌++◌, List, ℕ, ap, ◌∙◌, arith, length, length-append}
use Rattle.std.specs.List.{flat_map}
use Rattle.row_batch.specs.Batches.{operation_bytes}
use Rattle.row_batch.proofs.Framing.{length-frame, length-frame_head, frame_is}
use Rattle.row_batch.proofs.writing.finish.Goals as goal

pub push_operations-requires-clause-room : goal.push_operations-requires-clause-room
push_operations-requires-clause-room c = omega (arith, length-frame c.args.operations.now, length-frame_head c.args.operations.now, ap length c.requires.head, c.requires.room)

pub push-requires : goal.push-requires
push-requires c =
    omega (arith, length-frame c.args.operations.now, length-frame_head c.args.operations.now, ap length c.requires.head, c.requires.room, ap length c.push_operations.ensures.items, length-append c.args.bytes.now.items (flat_map operation_bytes c.args.operations.now), c.push_operations.ensures.capacity)

pub returns : goal.returns
returns c =
    c.push.ensures.items ∙ ap (λ (front : List ℕ). front ++ 0 ∷ []) (c.push_operations.ensures.items ∙ ap (λ (front : List ℕ). front ++ flat_map operation_bytes c.args.operations.now) c.requires.head) ∙ frame_is c.args.operations.now
