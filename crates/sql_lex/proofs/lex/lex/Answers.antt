use Rattle.std.proofs.Common.{arith, ◌∙◌, ap}
use Rattle.sql_lex.specs.Lexing.{tokens_of}
use Rattle.sql_lex.specs.declared.lex.Next.TheVariants.{Bad, Gap, Lexeme}
use Rattle.sql_lex.proofs.Places.{goes_by, bad_is, gap_is, token_is}
use Rattle.sql_lex.proofs.lex.lex.Goals as goal

pub overflow_add-at : goal.overflow_add-at
overflow_add-at c = let g = goes_by (Gap c.in-Gap.n c.in-Gap.later) c.pieces.inside c.args.text.now c.pieces.at c.pieces-test.true c.in-Gap.ensures in omega (arith, g.1)

pub pieces-smaller-in-Gap : goal.pieces-smaller-in-Gap
pieces-smaller-in-Gap c = let g = goes_by (Gap c.in-Gap.n c.in-Gap.later) c.pieces.inside c.args.text.now c.pieces.at c.pieces-test.true c.in-Gap.ensures in omega (arith, g.0, g.1)

pub pieces-preserved-in-Gap : goal.pieces-preserved-in-Gap
pieces-preserved-in-Gap c =
    let g = goes_by (Gap c.in-Gap.n c.in-Gap.later) c.pieces.inside c.args.text.now c.pieces.at c.pieces-test.true c.in-Gap.ensures in
    record { so_far = gap_is c.pieces.inside c.in-Gap.later c.args.text.now c.pieces.at c.in-Gap.n c.pieces.tokens.items (tokens_of c.args.text.now) g c.pieces.invariant.so_far; place = g.1 }

pub overflow_add-at-in-Lexeme : goal.overflow_add-at-in-Lexeme
overflow_add-at-in-Lexeme c = let g = goes_by (Lexeme c.in-Lexeme.kind c.in-Lexeme.n) c.pieces.inside c.args.text.now c.pieces.at c.pieces-test.true c.in-Lexeme.ensures in omega (arith, g.1)

pub overflow_add-at-in-Lexeme-2 : goal.overflow_add-at-in-Lexeme-2
overflow_add-at-in-Lexeme-2 c = let g = goes_by (Lexeme c.in-Lexeme.kind c.in-Lexeme.n) c.pieces.inside c.args.text.now c.pieces.at c.pieces-test.true c.in-Lexeme.ensures in omega (arith, g.1)

pub pieces-smaller : goal.pieces-smaller
pieces-smaller c = let g = goes_by (Lexeme c.in-Lexeme.kind c.in-Lexeme.n) c.pieces.inside c.args.text.now c.pieces.at c.pieces-test.true c.in-Lexeme.ensures in omega (arith, g.0, g.1)

pub pieces-preserved : goal.pieces-preserved
pieces-preserved c =
    let g = goes_by (Lexeme c.in-Lexeme.kind c.in-Lexeme.n) c.pieces.inside c.args.text.now c.pieces.at c.pieces-test.true c.in-Lexeme.ensures in
    let t = token_is c.pieces.inside c.in-Lexeme.kind c.args.text.now c.pieces.at c.in-Lexeme.n c.pieces.tokens.items (tokens_of c.args.text.now) g c.pieces.invariant.so_far in
    record { so_far = rw c.in_ok-push-in-Lexeme.ensures.items t; place = g.1 }

pub returns-in-Bad : goal.returns-in-Bad
returns-in-Bad c =
    let g = goes_by Bad c.pieces.inside c.args.text.now c.pieces.at c.pieces-test.true c.in-Bad.ensures in
    (bad_is c.pieces.inside c.args.text.now c.pieces.at c.pieces.tokens.items (tokens_of c.args.text.now) g c.pieces.invariant.so_far)
