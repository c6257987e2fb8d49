use Rattle.std.proofs.Common.{◌+◌, List, length, sym, ap, ◌∙◌}
use Rattle.std.specs.List.{flat_map}
use Rattle.std.proofs.lemmas.List.{take_all}
use Rattle.row_batch.specs.declared.operation.Operation.{Operation}
use Rattle.row_batch.specs.Batches.{operation_bytes}
use Rattle.row_batch.proofs.Framing.{length-frame, length-operation, fits_at}
use Rattle.row_batch.proofs.writing.size_of.Goals as goal

pub size-requires : goal.size-requires
size-requires c = length-operation c.operation-item.result (fits_at c.args.operations.now c.each.operation-index c.operation-item.result c.requires.each c.each-test.true c.operation-item.is)

pub returns : goal.returns
returns c =
    c.each.invariant ∙ ap (λ (xs : List Operation). 13 + length (flat_map operation_bytes xs)) (take_all c.each.operation-index c.args.operations.now c.each-test.false) ∙ sym (length-frame c.args.operations.now)
