-- The token at the front of a text has what its kind says.
use Rattle.std.proofs.Common.{◌≡◌, ℕ, suc, ◌+◌, ◌-◌, ◌<◌, Bool, true, false, cond, ◌&&◌, ◌||◌, List, [], ◌∷◌, length, take, drop, nat_lt, Option, Some, None, refl, arith}
use Rattle.std.specs.Prelude.{take_while, ◌==◌}
use Rattle.std.specs.List.{list_all}
use Rattle.std.specs.Char.{is_ascii_digit}
use Rattle.std.specs.Str.{IsUtf8, is_utf8}
use Rattle.std.proofs.lemmas.List.Sums.{take_while-cons}
use Rattle.std.proofs.lemmas.Bool.{eqb-true}
use Rattle.std.proofs.lemmas.Bool.Decides.{nat_tests}
use Rattle.sql_grammar.proofs.Bits.{and_true}
use Rattle.dd_names.specs.Names.{is_name_byte}
use Rattle.sql_lex.specs.declared.token.TokenKind.{TokenKind}
use Rattle.sql_lex.specs.declared.token.TokenKind.TheVariants.{Word, Number, Quoted, Str, Sign}
use Rattle.sql_lex.specs.declared.piece.Shape.{Shape}
use Rattle.sql_lex.specs.declared.piece.Shape.TheVariants.{Blank, Comment, Opening, Closing, Lexeme, Stray, Unended}
use Rattle.sql_lex.specs.declared.piece.Piece.{Piece}
use Rattle.sql_lex.specs.declared.reach.Until.TheVariants.{CommentEnd, BackQuote, Quote}
use Rattle.sql_lex.specs.Bytes.{is_blank, is_sign}
use Rattle.sql_lex.specs.Ends.{reach, starts_with_2, starts_with_3}
use Rattle.sql_lex.specs.Pieces.{run, piece, ended, word_piece, quoted_piece, quoted_shape, string_piece, comment_piece, opening_piece, slash_piece, star_piece, is_dash_comment, line_piece, front}
use Rattle.sql_lex.proofs.Runs.{run_again}
use Rattle.sql_lex.specs.Strings.{string_meaning}
use Rattle.sql_read.specs.Tokens.{is_name_text, is_digits}
use Rattle.sql_read.proofs.StringTexts.{EndsWith, ends_with, string_is_text}

-- what n bytes at the front of these are as a token of the kind
abbrev pub has_kind : TokenKind → ℕ → List ℕ → Bool
has_kind Word n bs = is_name_text (take n bs)
has_kind Number n bs = is_digits (take n bs)
has_kind Quoted n bs = is_name_text (take (n - 2) (drop 1 bs))
has_kind Str n bs = is_utf8 (string_meaning (take n bs))
has_kind Sign n bs = true

abbrev pub has_shape : Shape → ℕ → List ℕ → Bool
has_shape (Lexeme kind) n bs = has_kind kind n bs
has_shape Blank n bs = true
has_shape Comment n bs = true
has_shape Opening n bs = true
has_shape Closing n bs = true
has_shape Stray n bs = true
has_shape Unended n bs = true

abbrev Has : List ℕ → Piece → Type 0
Has bs p = has_shape p.shape p.len bs ≡ true

at_cond : (P : Piece → Type 0) (c : Bool) (x y : Piece) → (c ≡ true → P x) → (c ≡ false → P y) → P (cond c x y)
at_cond P true x y f g = f refl
at_cond P false x y f g = g refl

both : (a b : Bool) → a ≡ true → b ≡ true → (a && b) ≡ true
both true true h k = refl
both true false h k = absurd cc
both false b h k = absurd cc

passes : (p : ℕ → Bool) (xs : List ℕ) → list_all p (take_while p xs) ≡ true
passes p [] = refl
passes p (x ∷ xs) = go (p x) refl (passes p xs)
  where
    go : (b : Bool) → p x ≡ b → list_all p (take_while p xs) ≡ true → list_all p (take_while p (x ∷ xs)) ≡ true
    go true e h = rw (take_while-cons, e, e) h
    go false e h = rw (take_while-cons, e) refl

positive : (n : ℕ) → nat_lt 0 (suc n) ≡ true
positive n = grind (arith, nat_tests)

some_run : (b : ℕ) (bs : List ℕ) → is_name_byte b ≡ true → nat_lt 0 (length (run (b ∷ bs))) ≡ true
unfolding run
some_run b bs h = rw (take_while-cons, h) (positive (length (take_while is_name_byte bs)))

run_is_name : (bs : List ℕ) → nat_lt 0 (length (run bs)) ≡ true → is_name_text (run bs) ≡ true
unfolding run
run_is_name bs h = both (nat_lt 0 (length (run bs))) (list_all is_name_byte (run bs)) h (passes is_name_byte bs)

word_has : (bs : List ℕ) → nat_lt 0 (length (run bs)) ≡ true → Has bs (word_piece bs)
unfolding word_piece
word_has bs h = go (list_all is_ascii_digit (run bs)) refl
  where
    go : (c : Bool) → list_all is_ascii_digit (run bs) ≡ c → has_kind (cond c Number Word) (length (run bs)) bs ≡ true
    go true e = rw (run_again bs) (both (nat_lt 0 (length (run bs))) (list_all is_ascii_digit (run bs)) h e)
    go false e = rw (run_again bs) (run_is_name bs h)

name_has : (b : ℕ) (bs : List ℕ) (n : ℕ) (c : Bool) → (nat_lt 0 (length (run bs)) && n == length (run bs) + 1) ≡ c → Has (b ∷ bs) (piece (cond c (Lexeme Quoted) Stray) (1 + n))
name_has b bs n false e = refl
name_has b bs n true e =
    let w = and_true (nat_lt 0 (length (run bs))) (n == length (run bs) + 1) e in
    let same = eqb-true n (length (run bs) + 1) w.1 in
    let len : 1 + n - 2 ≡ length (run bs) = omega (arith, same) in
    rw (len, run_again bs) (run_is_name bs w.0)

quoted_has : (b : ℕ) (bs : List ℕ) (o : Option ℕ) → Has (b ∷ bs) (ended (quoted_shape bs o) 1 (length bs) o)
unfolding quoted_shape
quoted_has b bs None = refl
quoted_has b bs (Some n) = name_has b bs n (nat_lt 0 (length (run bs)) && n == length (run bs) + 1) refl

plain_ended : (bs : List ℕ) (kind : Shape) (k rest : ℕ) (o : Option ℕ) → ((n : ℕ) → has_shape kind n bs ≡ true) → Has bs (ended kind k rest o)
plain_ended bs kind k rest None h = refl
plain_ended bs kind k rest (Some n) h = h (k + n)

comment_has : (l bs : List ℕ) → Has l (comment_piece bs)
unfolding comment_piece
comment_has l bs = plain_ended l Comment 2 (length bs) (reach CommentEnd bs 0) (λ n. refl)

slash_has : (inside : Bool) (l bs : List ℕ) → Has l (slash_piece inside bs)
unfolding slash_piece opening_piece
slash_has inside l bs =
    let P : Piece → Type 0 = Has l in
    at_cond P (starts_with_3 47 42 33 bs) _ _ (λ h. at_cond P inside _ _ (λ k. refl) (λ k. refl)) (λ h. at_cond P (starts_with_2 47 42 bs) _ _ (λ k. comment_has l (drop 2 bs)) (λ k. refl))

star_has : (inside : Bool) (l bs : List ℕ) → Has l (star_piece inside bs)
unfolding star_piece
star_has inside l bs = at_cond (Has l) (inside && starts_with_2 42 47 bs) _ _ (λ h. refl) (λ h. refl)

string_has : (q : ℕ) (bs : List ℕ) (o : Option ℕ) → q < 128 → IsUtf8 (q ∷ bs) → EndsWith q bs o → Has (q ∷ bs) (ended (Lexeme Str) 1 (length bs) o)
string_has q bs None s u h = refl
string_has q bs (Some n) s u h = string_is_text q bs n s u h

quote_is_small : (b : ℕ) → (b == 39 || b == 34) ≡ true → b < 128
quote_is_small b h = grind (arith, nat_tests)

pub front_has : (inside : Bool) (b : ℕ) (bs : List ℕ) → (b < 128 → IsUtf8 (b ∷ bs)) → Has (b ∷ bs) (front inside b bs)
unfolding front quoted_piece string_piece line_piece
front_has inside b bs u =
    let P : Piece → Type 0 = Has (b ∷ bs) in
    at_cond P (is_blank b) _ _ (λ h. refl) (λ h0.
    at_cond P (b == 35 || is_dash_comment (b ∷ bs)) _ _ (λ h. refl) (λ h1.
    at_cond P (b == 47) _ _ (λ h. slash_has inside (b ∷ bs) (b ∷ bs)) (λ h2.
    at_cond P (b == 42) _ _ (λ h. star_has inside (b ∷ bs) (b ∷ bs)) (λ h3.
    at_cond P (is_name_byte b) _ _ (λ h. word_has (b ∷ bs) (some_run b bs h)) (λ h4.
    at_cond P (b == 96) _ _ (λ h. quoted_has b bs (reach BackQuote bs 0)) (λ h5.
    at_cond P (b == 39 || b == 34) _ _ (λ h. let s = quote_is_small b h in string_has b bs (reach (Quote b) bs 0) s (u s) (ends_with b bs 0)) (λ h6.
    at_cond P (is_sign b) _ _ (λ h. refl) (λ h7. refl))))))))
