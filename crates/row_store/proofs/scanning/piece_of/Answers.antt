use Rattle.std.proofs.Common.{arith}
use Rattle.row_store.proofs.Pieces.{enough, all_picked, picked_more, one_longer, left_at, if_err}
use Rattle.row_store.proofs.scanning.piece_of.Goals as goal

pub returns-then-len-eq-PIECE-clause-piece : goal.returns-then-len-eq-PIECE-clause-piece
returns-then-len-eq-PIECE-clause-piece c = enough c.args.scan.now c.args.rows.now c.each.piece.items c.each.row-index c.each.invariant.picked (omega arith)

pub each-preserved : goal.each-preserved
each-preserved c = record {
  picked = picked_more c.args.scan.now c.args.rows.now c.each.piece.items c.pick.new.piece.items c.each.row-index c.row-item.result c.each-test.true c.row-item.is c.each.invariant.picked c.in_ok-pick.ensures.picked;
  short = omega (arith, one_longer c.args.scan.now c.each.piece.items c.pick.new.piece.items c.row-item.result c.in_ok-pick.ensures.picked);
}

pub returns-clause-piece : goal.returns-clause-piece
returns-clause-piece c = all_picked c.args.scan.now c.args.rows.now c.each.piece.items c.each.row-index c.each.invariant.picked c.each-test.false (omega arith)

pub returns-in_err-pick-clause-wanted : goal.returns-in_err-pick-clause-wanted
returns-in_err-pick-clause-wanted c =
    if_err _ _ (left_at c.args.scan.now c.args.rows.now c.each.row-index c.row-item.result c.each-test.true c.row-item.is c.in_err-pick.ensures.wanted)
