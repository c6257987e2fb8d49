use Rattle.std.proofs.Common.{◌≡◌, arith}
use Rattle.std.proofs.lemmas.Result.{err_from_is_err_and}
use Rattle.row_batch.specs.declared.fault.BatchFault.TheVariants.{Malformed}
use Rattle.row_batch.proofs.Readings.{batch_takes, found, only, refused}
use Rattle.row_batch.proofs.Keeping.{room_of_batch}
use Rattle.row_batch.proofs.batch.Batch.read.Goals as goal

pub returns-in_err-operations-clause-malformed : goal.returns-in_err-operations-clause-malformed
returns-in_err-operations-clause-malformed c =
    let p = err_from_is_err_and c.from_residual.result c.from_residual.ensures.1 in
    λ h operations batch is. refused c.in_err-operations.field-0.0 c.args.bytes.now operations c.in_err-operations.ensures (let e : c.in_err-operations.field-0.0 ≡ Malformed = cc (p.1, p.2, h) in e) batch is

pub invariant_of-result : goal.invariant_of-result
invariant_of-result c = record {
  room = room_of_batch c.in_ok-operations.operations.items (batch_takes c.args.bytes.now c.in_ok-operations.operations.items (λ i. omega (arith, c.type_inv.bytes i)) c.in_ok-operations.ensures).0;
  framed_is = λ x e. absurd cc;
}

pub returns-clause-found : goal.returns-clause-found
returns-clause-found c = found c.args.bytes.now c.in_ok-operations.operations.items (λ i. omega (arith, c.type_inv.bytes i)) c.in_ok-operations.ensures

pub returns-clause-only : goal.returns-clause-only
returns-clause-only c = λ operations batch is. only c.args.bytes.now c.in_ok-operations.operations.items operations c.in_ok-operations.ensures batch is
