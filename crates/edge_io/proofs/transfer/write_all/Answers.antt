use Rattle.std.proofs.Common.{drop, length-drop, arith}
use Rattle.std.proofs.lemmas.List.{take_all}
use Rattle.edge_io.proofs.Told.{appends_more}
use Rattle.edge_io.proofs.transfer.write_all.Goals as goal

pub pieces-preserved : goal.pieces-preserved
pieces-preserved g c =
    let i = c.pieces.invariant in
    let bs = c.args.bytes.now in
    let m = c.pieces.written in
    record {
      within = omega (arith, c.in_ok-written.ensures.bound, length-drop m bs);
      told = appends_more _ _ _ bs _ m c.in_ok-written.field-0 (take_all _ (drop m bs) (omega (arith, length-drop m bs))) i.told c.in_ok-written.ensures.bytes;
      later = omega (arith, i.later, c.in_ok-written.ensures.cause.later);
    }
