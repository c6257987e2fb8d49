use Rattle.std.proofs.Common.{◌≡◌, false, ap, ◌∙◌, sym, subst}
use Rattle.sql_lex.specs.Lexing.{has_closing, is_closing}
use Rattle.sql_lex.specs.Pieces.{cut}
use Rattle.std.proofs.Common.{drop, Bool, ◌+◌}
use Rattle.sql_lex.proofs.Places.{closing_later}
use Rattle.sql_lex.proofs.lex.closes.Goals as goal

pub pieces-preserved : goal.pieces-preserved
pieces-preserved c =
    let total : Bool = has_closing (cut (drop c.args.start c.args.text.now) 0 c.args.entered) in
    let e = closing_later c.pieces.inside c.args.text.now c.pieces.at c.piece_at-piece.result total c.piece_at-piece.ensures.piece c.pieces-test.true (sym c.is_closing.ensures ∙ c.if-is_closing.false) c.pieces.invariant.so_far in
    record { so_far = ap (λ (x : Bool). has_closing (cut (drop (c.pieces.at + c.piece_at-piece.result.len) c.args.text.now) 0 x)) c.inside_after-inside.ensures ∙ e; place = c.piece_at-piece.ensures.within }
