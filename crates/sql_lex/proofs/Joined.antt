-- Bytes that are one piece before what follows are that piece, and then come the pieces of what follows.
use Rattle.std.proofs.Common.{◌≡◌, ℕ, zero, suc, ◌+◌, ◌<◌, ◌≤◌, Bool, true, false, cond, ◌&&◌, ◌||◌, not, List, [], ◌∷◌, ◌++◌, length, take, drop, refl, sym, ap, subst, ◌∙◌, arith}
use Rattle.std.specs.Prelude.{take_while, ◌==◌}
use Rattle.std.specs.List.{list_all}
use Rattle.std.specs.Char.{is_ascii_digit}
use Rattle.std.proofs.lemmas.List.{drop_at}
use Rattle.std.proofs.lemmas.List.Sums.{take_while-cons}
use Rattle.std.proofs.lemmas.Bool.{ne_eqb}
use Rattle.std.proofs.lemmas.Bool.Decides.{nat_tests}
use Rattle.dd_names.specs.Names.{is_name_byte}
use Rattle.sql_lex.specs.declared.token.TokenKind.TheVariants.{Word, Number}
use Rattle.sql_lex.specs.declared.piece.Shape.TheVariants.{Blank, Lexeme}
use Rattle.sql_lex.specs.declared.piece.Piece.{Piece}
use Rattle.sql_lex.specs.Bytes.{is_blank}
use Rattle.sql_lex.specs.Pieces.{piece, run, word_piece, is_dash_comment, front, front_of, after, cut}
use Rattle.sql_lex.proofs.Cuts.{cut_front}

abbrev cons : Piece → List Piece → List Piece
cons p ps = p ∷ ps

-- the front of w and what follows is one piece of w's length
pub joined : (inside : Bool) (w rest : List ℕ) (p : Piece) → 0 < length w → front_of inside (w ++ rest) ≡ p → p.len ≡ length w → cut (w ++ rest) 0 inside ≡ p ∷ cut rest 0 (after inside p.shape)
joined inside [] rest p h e l = absurd (omega arith)
joined inside (b ∷ w) rest p h e l =
    cut_front inside ((b ∷ w) ++ rest) (omega arith)
    ∙ ap (λ (q : Piece). cons q (cut (drop q.len ((b ∷ w) ++ rest)) 0 (after inside q.shape))) e
    ∙ ap (λ (n : ℕ). cons p (cut (drop n ((b ∷ w) ++ rest)) 0 (after inside p.shape))) l
    ∙ ap (λ (x : List ℕ). cons p (cut x 0 (after inside p.shape))) (drop_at (b ∷ w) rest (length (b ∷ w)) refl)

pub blank_joined : (inside : Bool) (rest : List ℕ) → cut (32 ∷ rest) 0 inside ≡ piece Blank 1 ∷ cut rest 0 inside
unfolding front
blank_joined inside rest = joined inside (32 ∷ []) rest (piece Blank 1) (omega arith) refl refl

-- ---- words and numbers

-- letters, digits and _ alone
abbrev pub AllWord : List ℕ → Type 0
AllWord [] = Unit {0}
AllWord (b ∷ bs) = (is_name_byte b ≡ true) × AllWord bs

-- no run goes on into these bytes
abbrev pub EndsRun : List ℕ → Type 0
EndsRun [] = Unit {0}
EndsRun (c ∷ cs) = is_name_byte c ≡ false

run_end : (rest : List ℕ) → EndsRun rest → take_while is_name_byte rest ≡ []
run_end [] e = refl
run_end (c ∷ cs) e = rw (take_while-cons, e) refl

run_front : (w rest : List ℕ) → AllWord w → EndsRun rest → take_while is_name_byte (w ++ rest) ≡ w
run_front [] rest h e = run_end rest e
run_front (b ∷ w) rest h e = let k = h.0 in rw (take_while-cons, k) (ap (λ (x : List ℕ). b ∷ x) (run_front w rest h.1 e))

-- letters, digits and _ are all from 48 on
from_zero : (b : ℕ) → is_name_byte b ≡ true → 48 ≤ b
from_zero b h = grind (arith, nat_tests)

no_blank : (b : ℕ) → 48 ≤ b → is_blank b ≡ false
no_blank b h =
    let a : (b == 32) ≡ false = ne_eqb b 32 (λ e. omega arith) in
    let c : (b == 9) ≡ false = ne_eqb b 9 (λ e. omega arith) in
    let d : (b == 10) ≡ false = ne_eqb b 10 (λ e. omega arith) in
    let f : (b == 13) ≡ false = ne_eqb b 13 (λ e. omega arith) in
    rw (a, c, d, f) refl

no_dash : (b : ℕ) (bs : List ℕ) → 48 ≤ b → is_dash_comment (b ∷ bs) ≡ false
no_dash b [] h = refl
no_dash b (c ∷ []) h = let a : (b == 45) ≡ false = ne_eqb b 45 (λ e. omega arith) in rw a refl
no_dash b (c ∷ d ∷ bs) h = let a : (b == 45) ≡ false = ne_eqb b 45 (λ e. omega arith) in rw a refl

run_is : (w rest : List ℕ) → AllWord w → EndsRun rest → run (w ++ rest) ≡ w
unfolding run
run_is w rest h e = run_front w rest h e

word_piece_is : (bs w : List ℕ) → run bs ≡ w → word_piece bs ≡ piece (Lexeme (cond (list_all is_ascii_digit w) Number Word)) (length w)
unfolding word_piece
word_piece_is bs w e = rw e refl

word_front : (inside : Bool) (b : ℕ) (w rest : List ℕ) → AllWord (b ∷ w) → EndsRun rest → front_of inside ((b ∷ w) ++ rest) ≡ piece (Lexeme (cond (list_all is_ascii_digit (b ∷ w)) Number Word)) (length (b ∷ w))
unfolding front
word_front inside b w rest h e =
    let low = from_zero b h.0 in
    let p = no_blank b low in
    let q : (b == 35) ≡ false = ne_eqb b 35 (λ k. omega arith) in
    let r = no_dash b (w ++ rest) low in
    let s = h.0 in
    let t : (b == 47) ≡ false = ne_eqb b 47 (λ k. omega arith) in
    let u : (b == 42) ≡ false = ne_eqb b 42 (λ k. omega arith) in
    rw (p, q, r, t, u, s) (word_piece_is ((b ∷ w) ++ rest) (b ∷ w) (run_is (b ∷ w) rest h e))

pub word_joined : (inside : Bool) (b : ℕ) (w rest : List ℕ) → AllWord (b ∷ w) → EndsRun rest → cut ((b ∷ w) ++ rest) 0 inside ≡ piece (Lexeme (cond (list_all is_ascii_digit (b ∷ w)) Number Word)) (length (b ∷ w)) ∷ cut rest 0 inside
word_joined inside b w rest h e = joined inside (b ∷ w) rest _ (omega arith) (word_front inside b w rest h e) refl
