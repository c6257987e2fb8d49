-- The pieces of a text are all of it.
use Rattle.std.proofs.Common.{◌≡◌, ℕ, zero, suc, ◌+◌, ◌-◌, ◌<◌, ◌≤◌, Bool, false, List, [], ◌∷◌, length, refl, arith}
use Rattle.sql_lex.specs.declared.piece.Piece.{Piece}
use Rattle.sql_lex.specs.Pieces.{front, after, cut, pieces, bytes_in}
use Rattle.sql_lex.proofs.Cuts.{OnPiece, front_within}

fill : (bs : List ℕ) (k : ℕ) (inside : Bool) → k ≤ length bs → k + bytes_in (cut bs k inside) ≡ length bs
fill [] zero inside h = refl
fill [] (suc k) inside h = absurd (omega arith)
fill (b ∷ bs) (suc k) inside h = let e = fill bs k inside (omega arith) in omega (arith, e)
fill (b ∷ bs) zero inside h =
    let p : Piece = front inside b bs in
    let w = front_within inside b bs in
    let some = w.0 in
    let within = w.1 in
    let e = fill bs (p.len - 1) (after inside p.shape) (omega (arith, some, within)) in
    omega (arith, some, e)

pub pieces_fill : (text : List ℕ) → bytes_in (pieces text) ≡ length text
pieces_fill text = let e = fill text 0 false (omega arith) in omega (arith, e)
