-- Names in pieces are short, and tokens that one blank divides are apart.
use Rattle.std.proofs.Common.{◌≡◌, ℕ, Bool, true, false, ◌&&◌, not, List, [], ◌∷◌, ◌++◌, length, refl, ap, subst, nat_lt, nat_le, arith}
use Rattle.std.specs.List.{list_all}
use Rattle.std.specs.Char.{is_ascii_digit}
use Rattle.std.proofs.lemmas.Bool.Decides.{nat_tests}
use Rattle.dd_names.specs.Names.{is_name_byte, is_name}
use Rattle.dd_names.specs.Reserved.{is_reserved}
use Rattle.sql_grammar.specs.Lexemes as lexemes
use Rattle.sql_grammar.specs.Lexemes.{Lexeme, is_long, Short}
use Rattle.sql_grammar.proofs.Bits.{and_true}
use Rattle.sql_lex.specs.Bytes.{is_blank}
use Rattle.sql_pieces.specs.Pieces.{Piece, gap, as_word, as_name, as_digits, as_string, as_sign, written, token_of, tokens, ends_run, fits, are_apart, behind_blanks, spaced, is_alone}
use Rattle.sql_pieces.specs.Laws.{IsTextOf}
use Rattle.sql_pieces.proofs.Told.{lexemes_told, nowhere_bad}

-- ---- short names

short_run : (w : List ℕ) → is_name w ≡ true → nat_lt 64 (length w) ≡ false
short_run w h =
    let k = and_true (nat_lt 0 (length w) && nat_le (length w) 64) (list_all is_name_byte w) h in
    let m = (and_true (nat_lt 0 (length w)) (nat_le (length w) 64) k.0).1 in
    grind (arith, nat_tests, m)

never : (b c : Bool) → c ≡ false → (b && c) ≡ false
never true c h = h
never false c h = refl

short_word : (w : List ℕ) → nat_lt 64 (length w) ≡ false → is_long (lexemes.word w) ≡ false
unfolding is_long
short_word w h = never (not (is_reserved w)) (nat_lt 64 (length w)) h

short_name : (w : List ℕ) → nat_lt 64 (length w) ≡ false → is_long (lexemes.quoted w) ≡ false
unfolding is_long
short_name w h = h

short_digits : (w : List ℕ) → is_long (lexemes.number w) ≡ false
unfolding is_long
short_digits w = refl

short_string : (w : List ℕ) → is_long (lexemes.string w) ≡ false
unfolding is_long
short_string w = refl

short_sign : (c : ℕ) → is_long (lexemes.sign c) ≡ false
unfolding is_long
short_sign c = refl

pub are_short : (ps : List Piece) → are_apart ps ≡ true → Short (tokens ps)
are_short [] h = tt
are_short (gap bs ∷ ps) h = are_short ps (and_true (list_all is_blank bs) (are_apart ps) h).1
are_short (as_word w ∷ ps) h =
    let k = and_true (fits (as_word w) (written ps)) (are_apart ps) h in
    let m = and_true (is_name w && not (list_all is_ascii_digit w)) (ends_run (written ps)) k.0 in
    (short_word w (short_run w (and_true (is_name w) (not (list_all is_ascii_digit w)) m.0).0), are_short ps k.1)
are_short (as_name n ∷ ps) h =
    let k = and_true (is_name n) (are_apart ps) h in
    (short_name n (short_run n k.0), are_short ps k.1)
are_short (as_digits w ∷ ps) h = (short_digits w, are_short ps (and_true (fits (as_digits w) (written ps)) (are_apart ps) h).1)
are_short (as_string s ∷ ps) h = (short_string s, are_short ps (and_true (fits (as_string s) (written ps)) (are_apart ps) h).1)
are_short (as_sign c ∷ ps) h = (short_sign c, are_short ps (and_true (fits (as_sign c) (written ps)) (are_apart ps) h).1)

-- ---- tokens that one blank divides

-- before a blank a piece is alone
before_blank : (p : Piece) (rest : List ℕ) → is_alone p ≡ true → fits p (32 ∷ rest) ≡ true
before_blank (gap bs) rest h = h
before_blank (as_word w) rest h = h
before_blank (as_name n) rest h = h
before_blank (as_digits w) rest h = h
before_blank (as_string s) rest h = h
before_blank (as_sign c) rest h = h

both : (b c : Bool) → b ≡ true → c ≡ true → (b && c) ≡ true
both b c e f = rw (e, f) refl

fits_before : (p : Piece) (ps : List Piece) → is_alone p ≡ true → fits p (written (behind_blanks ps)) ≡ true
fits_before p [] h = h
fits_before p (q ∷ ps) h = before_blank p (written (q ∷ behind_blanks ps)) h

behind_apart : (ps : List Piece) → list_all is_alone ps ≡ true → are_apart (behind_blanks ps) ≡ true
behind_apart [] h = refl
behind_apart (p ∷ ps) h =
    let k = and_true (is_alone p) (list_all is_alone ps) h in
    both (fits p (written (behind_blanks ps))) (are_apart (behind_blanks ps)) (fits_before p ps k.0) (behind_apart ps k.1)

pub spaced_apart : (ps : List Piece) → list_all is_alone ps ≡ true → are_apart (spaced ps) ≡ true
spaced_apart [] h = refl
spaced_apart (p ∷ ps) h =
    let k = and_true (is_alone p) (list_all is_alone ps) h in
    both (fits p (written (behind_blanks ps))) (are_apart (behind_blanks ps)) (fits_before p ps k.0) (behind_apart ps k.1)

-- a blank is no token
behind_tokens : (ps : List Piece) → tokens (behind_blanks ps) ≡ tokens ps
behind_tokens [] = refl
behind_tokens (p ∷ ps) = ap (λ (ls : List Lexeme). token_of p ++ ls) (behind_tokens ps)

spaced_tokens : (ps : List Piece) → tokens (spaced ps) ≡ tokens ps
spaced_tokens [] = refl
spaced_tokens (p ∷ ps) = ap (λ (ls : List Lexeme). token_of p ++ ls) (behind_tokens ps)

-- ---- both laws

pub apart_read : (ps : List Piece) → are_apart ps ≡ true → IsTextOf (written ps) (tokens ps)
apart_read ps h = record { same = lexemes_told ps h; nowhere_bad = nowhere_bad ps h; short = are_short ps h }

pub spaced_read : (ps : List Piece) → list_all is_alone ps ≡ true → IsTextOf (written (spaced ps)) (tokens ps)
spaced_read ps h = subst (IsTextOf (written (spaced ps))) (spaced_tokens ps) (apart_read (spaced ps) (spaced_apart ps h))
