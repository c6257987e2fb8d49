use Rattle.std.proofs.Common.{◌+◌, length-take, arith}
use Rattle.edge_io.proofs.Told.{consumes_within}
use Rattle.edge_io.proofs.transfer.read_up_to.Goals as goal

pub returns-then-is_err-clause-within : goal.returns-then-is_err-clause-within
returns-then-is_err-clause-within g c =
    consumes_within _ _ _ c.pieces.bytes.items c.read.new.into c.in-Ok.count (c.args.limit + 1) c.pieces.invariant.told c.in-Ok.ensures.bytes.0
    (omega (arith, c.read.auto.into, c.in-Ok.ensures.bound, length-take c.min-room.result c.pieces.piece))
