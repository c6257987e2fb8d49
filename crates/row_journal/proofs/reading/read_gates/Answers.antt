use Rattle.std.proofs.Common.{◌≡◌, ◌∷◌, [], ◌++◌, refl}
use Rattle.std.proofs.lemmas.List.{map_push}
use Rattle.std.proofs.lemmas.Result.{err_from_is_err_and}
use Rattle.row_batch.specs.Batches.{BatchValue}
use Rattle.row_journal.specs.Opening.{operations_of}
use Rattle.row_journal.proofs.Gated.{read_fault, stands_on, each_on}
use Rattle.row_journal.proofs.reading.read_gates.Goals as goal

pub returns-in_err-batch_of-in-Open-clause-fault : goal.returns-in_err-batch_of-in-Open-clause-fault
returns-in_err-batch_of-in-Open-clause-fault c =
    let p = err_from_is_err_and c.from_residual.result c.from_residual.ensures.1 in
    let so_far = c.gates.invariant in
    rw (p.1, p.2)
    (read_fault c.args.bytes.now c.gates.rest.now c.in-Open.content.now c.in-Open.more.now (operations_of c.gates.batches.items) so_far.stands so_far.each c.in-Open.ensures c.args.at _ c.in_err-batch_of-in-Open.field-0.0 refl c.in_err-batch_of-in-Open.ensures)

pub gates-preserved : goal.gates-preserved
gates-preserved c =
    let so_far = c.gates.invariant in
    let batches = operations_of c.gates.batches.items in
    let batch = c.in_ok-batch_of-in-Open.field-0 in
    let read = c.in_ok-batch_of-in-Open.ensures in
    let pushed : operations_of c.push.new.self.items ≡ batches ++ batch.operations ∷ [] = rw c.in_ok-push-in-Open.ensures.items (map_push (λ (b : BatchValue). b.operations) c.gates.batches.items batch) in
    rw pushed
    (record {
      stands = stands_on c.args.bytes.now c.gates.rest.now c.in-Open.content.now c.in-Open.more.now batches so_far.stands so_far.each c.in-Open.ensures batch.operations read.0 read.1;
      each = each_on c.args.bytes.now c.gates.rest.now c.in-Open.content.now c.in-Open.more.now batches so_far.stands so_far.each c.in-Open.ensures batch.operations read.0 read.1;
    })
