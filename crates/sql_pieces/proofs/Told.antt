-- The tokens of what is written in pieces are the tokens of the pieces.
use Rattle.std.proofs.Common.{◌≡◌, ℕ, ◌+◌, ◌-◌, true, false, ◌&&◌, not, List, [], ◌∷◌, ◌++◌, length, map, take, drop, Option, None, refl, sym, ap, subst, ◌∙◌, append_assoc, length-append, nat_lt, nat_le, arith}
use Rattle.std.specs.Prelude.{slice_range, slice_index, ◌==◌}
use Rattle.std.specs.List.{list_all}
use Rattle.std.specs.Char.{is_ascii_digit}
use Rattle.std.proofs.Math.Seq.{drop-append_seam, take-append_seam, drop-append-add, get_or-append_seam}
use Rattle.std.proofs.lemmas.List.{append-nil}
use Rattle.dd_names.specs.Names.{is_name_byte, is_name}
use Rattle.sql_grammar.specs.Lexemes as lexemes
use Rattle.sql_grammar.specs.Lexemes.{Lexeme}
use Rattle.sql_grammar.proofs.Bits.{and_true, not_true}
use Rattle.sql_lex.specs.declared.token.Token.{Token}
use Rattle.sql_lex.specs.declared.token.TokenKind.{TokenKind}
use Rattle.sql_lex.specs.declared.token.TokenKind.TheVariants.{Word, Number, Quoted, Str, Sign}
use Rattle.sql_lex.specs.declared.piece.Piece as cut_pieces
use Rattle.sql_lex.specs.Bytes.{is_blank, is_sign}
use Rattle.sql_lex.specs.Pieces.{cut}
use Rattle.sql_lex.specs.Lexing.{lexed, tokens_of}
use Rattle.sql_lex.specs.Texts.{lexeme_at, lexeme_of, lexemes as lexemes_of}
use Rattle.sql_pieces.specs.Pieces.{Piece, gap, as_word, as_name, as_digits, as_string, as_sign, quoted_name, quoted_string, spelled, written, token_of, tokens, ends_run, begins_with, fits, are_apart}
use Rattle.sql_lex.specs.Strings.{string_meaning}
use Rattle.sql_pieces.proofs.Strings.{string_means}
use Rattle.sql_pieces.proofs.Shapes.{IsCut, blank_cut, word_cut, digits_cut, name_cut, string_cut, sign_cut}

-- ---- what stands in a text behind its front

slice_there : (front w rest : List ℕ) (at : ℕ) → length front ≡ at → slice_range (front ++ (w ++ rest)) at (at + length w) ≡ w
slice_there front w rest at e =
    let n : at + length w - at ≡ length w = omega arith in
    let d : drop at (front ++ (w ++ rest)) ≡ w ++ rest = ap (λ (k : ℕ). drop k (front ++ (w ++ rest))) (sym e) ∙ drop-append_seam front (w ++ rest) in
    rw (n, d) (take-append_seam w rest)

inner_there : (front w rest : List ℕ) (q at : ℕ) → length front ≡ at → slice_range (front ++ ((q ∷ (w ++ q ∷ [])) ++ rest)) (at + 1) (at + length (q ∷ (w ++ q ∷ [])) - 1) ≡ w
inner_there front w rest q at e =
    let l = length-append w (q ∷ []) in
    let n : at + length (q ∷ (w ++ q ∷ [])) - 1 - (at + 1) ≡ length w = omega (arith, l) in
    let d : drop (at + 1) (front ++ ((q ∷ (w ++ q ∷ [])) ++ rest)) ≡ (w ++ q ∷ []) ++ rest = ap (λ (k : ℕ). drop (k + 1) (front ++ ((q ∷ (w ++ q ∷ [])) ++ rest))) (sym e) ∙ drop-append-add front ((q ∷ (w ++ q ∷ [])) ++ rest) 1 in
    rw (n, d) (ap (take (length w)) (append_assoc w (q ∷ []) rest) ∙ take-append_seam w (q ∷ rest))

byte_there : (front rest : List ℕ) (c at : ℕ) → length front ≡ at → slice_index (front ++ ((c ∷ []) ++ rest)) at ≡ c
byte_there front rest c at e = ap (λ (k : ℕ). slice_index (front ++ ((c ∷ []) ++ rest)) k) (sym e) ∙ get_or-append_seam front c rest 0

-- ---- a text read from a place on

abbrev Read : Type 0
Read = List Token × Option ℕ

-- the pieces are read behind a front as their tokens
abbrev Told : List ℕ → List ℕ → ℕ → List Lexeme → Type 0
Told text bs at ls = (map (lexeme_of text) (lexed at (cut bs 0 false)).0 ≡ ls) × ((lexed at (cut bs 0 false)).1 ≡ None)

abbrev Said : List ℕ → Read → List Lexeme → Type 0
Said text r ls = (map (lexeme_of text) r.0 ≡ ls) × (r.1 ≡ None)

one_token : (kind : TokenKind) (text w rest : List ℕ) (at : ℕ) (l : Lexeme) (ls : List Lexeme)
    → IsCut kind w rest → lexeme_at kind text at (at + length w) ≡ l → Told text rest (at + length w) ls → Told text (w ++ rest) at (l ∷ ls)
one_token kind text w rest at l ls e same more =
    subst (λ (ps : List cut_pieces.Piece). Said text (lexed at ps) (l ∷ ls)) (sym e)
    (ap (λ (x : Lexeme). x ∷ map (lexeme_of text) (lexed (at + length w) (cut rest 0 false)).0) same ∙ ap (λ (x : List Lexeme). l ∷ x) more.0, more.1)

blanks : (bs text rest : List ℕ) (at : ℕ) (ls : List Lexeme) → list_all is_blank bs ≡ true → Told text rest (at + length bs) ls → Told text (bs ++ rest) at ls
blanks [] text rest at ls h more = let e : at + 0 ≡ at = omega arith in subst (λ (k : ℕ). Told text rest k ls) e more
blanks (b ∷ bs) text rest at ls h more =
    let k = and_true (is_blank b) (list_all is_blank bs) h in
    let e : at + length (b ∷ bs) ≡ (at + 1) + length bs = omega arith in
    let m = blanks bs text rest (at + 1) ls k.1 (subst (λ (n : ℕ). Told text rest n ls) e more) in
    subst (λ (ps : List cut_pieces.Piece). Said text (lexed at ps) ls) (sym (blank_cut b (bs ++ rest) k.0)) m

-- ---- one piece

piece_told : (p : Piece) (front rest : List ℕ) (at : ℕ) (ls : List Lexeme) → fits p rest ≡ true → length front ≡ at
    → Told (front ++ (spelled p ++ rest)) rest (at + length (spelled p)) ls → Told (front ++ (spelled p ++ rest)) (spelled p ++ rest) at (token_of p ++ ls)
piece_told (gap bs) front rest at ls h e more = blanks bs (front ++ (bs ++ rest)) rest at ls h more
piece_told (as_word w) front rest at ls h e more =
    let k = and_true (is_name w && not (list_all is_ascii_digit w)) (ends_run rest) h in
    let m = and_true (is_name w) (not (list_all is_ascii_digit w)) k.0 in
    let s = and_true (nat_lt 0 (length w) && nat_le (length w) 64) (list_all is_name_byte w) m.0 in
    let some = (and_true (nat_lt 0 (length w)) (nat_le (length w) 64) s.0).0 in
    one_token Word (front ++ (w ++ rest)) w rest at (lexemes.word w) ls (word_cut w rest some s.1 (not_true (list_all is_ascii_digit w) m.1) k.1) (ap (λ (x : List ℕ). lexemes.word x) (slice_there front w rest at e)) more
piece_told (as_name n) front rest at ls h e more =
    one_token Quoted (front ++ (quoted_name n ++ rest)) (quoted_name n) rest at (lexemes.quoted n) ls (name_cut n rest h) (ap (λ (x : List ℕ). lexemes.quoted x) (inner_there front n rest 96 at e)) more
piece_told (as_digits w) front rest at ls h e more =
    let k = and_true (nat_lt 0 (length w) && list_all is_ascii_digit w) (ends_run rest) h in
    let m = and_true (nat_lt 0 (length w)) (list_all is_ascii_digit w) k.0 in
    one_token Number (front ++ (w ++ rest)) w rest at (lexemes.number w) ls (digits_cut w rest m.0 m.1 k.1) (ap (λ (x : List ℕ). lexemes.number x) (slice_there front w rest at e)) more
piece_told (as_string s) front rest at ls h e more =
    one_token Str (front ++ (quoted_string s ++ rest)) (quoted_string s) rest at (lexemes.string s) ls (string_cut s rest (not_true (begins_with 39 rest) h))
    (ap (λ (x : List ℕ). lexemes.string (meaning x)) (slice_there front (quoted_string s) rest at e) ∙ ap (λ (x : List ℕ). lexemes.string x) (string_means s)) more
  where
    meaning : List ℕ → List ℕ
    meaning x = string_meaning x
piece_told (as_sign c) front rest at ls h e more =
    let k = and_true (is_sign c) (not (c == 45 && begins_with 45 rest)) h in
    one_token Sign (front ++ ((c ∷ []) ++ rest)) (c ∷ []) rest at (lexemes.sign c) ls (sign_cut c rest k.0 (not_true (c == 45 && begins_with 45 rest) k.1)) (ap (λ (x : ℕ). lexemes.sign x) (byte_there front rest c at e)) more

-- ---- all pieces

told : (ps : List Piece) (front text : List ℕ) (at : ℕ) → are_apart ps ≡ true → length front ≡ at → front ++ written ps ≡ text → Told text (written ps) at (tokens ps)
told [] front text at h e t = (refl, refl)
told (p ∷ ps) front text at h e t =
    let k = and_true (fits p (written ps)) (are_apart ps) h in
    let w : List ℕ = spelled p in
    let more = told ps (front ++ w) text (at + length w) k.1 (length-append front w ∙ ap (λ (n : ℕ). n + length w) e) (append_assoc front w (written ps) ∙ t) in
    let with_text = subst (λ (x : List ℕ). Told x (written ps) (at + length w) (tokens ps)) (sym t) more in
    subst (λ (x : List ℕ). Told x (w ++ written ps) at (token_of p ++ tokens ps)) t (piece_told p front (written ps) at (tokens ps) k.0 e with_text)

pub lexemes_told : (ps : List Piece) → are_apart ps ≡ true → lexemes_of (written ps) ≡ tokens ps
unfolding lexemes_of
lexemes_told ps h =
    let t = told ps [] (written ps) 0 h refl refl in
    let e = t.1 in
    rw (t.0, e) (append-nil (tokens ps))

pub nowhere_bad : (ps : List Piece) → are_apart ps ≡ true → (tokens_of (written ps)).1 ≡ None
nowhere_bad ps h = (told ps [] (written ps) 0 h refl refl).1
