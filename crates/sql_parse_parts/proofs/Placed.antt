-- Places of tokens, and how many are left.
use Rattle.std.proofs.Common.{◌≡◌, ℕ, zero, suc, ◌+◌, ◌-◌, ◌<◌, ◌≤◌, cond, List, [], ◌∷◌, ◌++◌, length, map, drop, Option, Some, None, is_some, unwrap_or, refl, sym, ap, ◌∙◌, slice_index_or, arith}
use Rattle.std.proofs.lemmas.List.{append-nil, drop-map, length-append, length-map}
use Rattle.sql_grammar.specs.Lexemes.{Lexeme}
use Rattle.sql_lex.specs.declared.token.Token.{Token}
use Rattle.sql_lex.specs.Lexing.{tokens_of}
use Rattle.sql_lex.specs.Texts.{lexeme_of, lexemes, broken_if, end_of, place_at, place_of}

pub place_there : (number : ℕ) (tokens : List Token) (end : ℕ) (d : Token) → number < length tokens → (slice_index_or tokens number d).from ≡ place_at number tokens end
place_there number [] end d h = absurd (omega arith)
place_there zero (t ∷ ts) end d h = refl
place_there (suc number) (t ∷ ts) end d h = place_there number ts end d (omega arith)

pub place_behind : (number : ℕ) (tokens : List Token) (end : ℕ) → length tokens ≤ number → end ≡ place_at number tokens end
place_behind number [] end h = refl
place_behind zero (t ∷ ts) end h = absurd (omega arith)
place_behind (suc number) (t ∷ ts) end h = place_behind number ts end (omega arith)

ends_so : (bad : Option ℕ) → length (broken_if bad) ≡ cond (is_some bad) 1 0
ends_so None = refl
ends_so (Some at) = refl

abbrev all_of : List ℕ → List Token × Option ℕ → List Lexeme
all_of text r = map (lexeme_of text) r.0 ++ broken_if r.1

counted : (text : List ℕ) (r : List Token × Option ℕ) → length (all_of text r) ≡ length r.0 + cond (is_some r.1) 1 0
counted text r =
    let a = length-append (map (lexeme_of text) r.0) (broken_if r.1) in
    let b = length-map r.0 (lexeme_of text) in
    let c = ends_so r.1 in
    omega (arith, a, b, c)

abbrev place_in : ℕ → ℕ → List Token × Option ℕ → ℕ
place_in left size r = place_at (length r.0 + cond (is_some r.1) 1 0 - left) r.0 (end_of size r.1)

-- the byte at which the last lexemes begin, by counting them
pub place_is : (text : List ℕ) (tokens : List Token) (bad : Option ℕ) (left : ℕ) → (tokens, bad) ≡ tokens_of text → place_in left (length text) (tokens, bad) ≡ place_of text left
unfolding place_of lexemes
place_is text tokens bad left e =
    ap (place_in left (length text)) e
    ∙ ap (λ (n : ℕ). place_at (n - left) (tokens_of text).0 (end_of (length text) (tokens_of text).1)) (sym (counted text (tokens_of text)))

-- what is seen from a token on
pub dropped : (text : List ℕ) (tokens : List Token) (from : ℕ) → (tokens, None) ≡ tokens_of text → map (lexeme_of text) (drop from tokens) ++ [] ≡ drop from (lexemes text)
unfolding lexemes
dropped text tokens from e =
    append-nil (map (lexeme_of text) (drop from tokens))
    ∙ sym (drop-map (lexeme_of text) from tokens)
    ∙ ap (drop from) (sym (append-nil (map (lexeme_of text) tokens)))
    ∙ ap (λ (r : List Token × Option ℕ). drop from (all_of text r)) e

pub end_is : (bad : Option ℕ) (size : ℕ) → unwrap_or bad size ≡ end_of size bad
end_is None size = refl
end_is (Some at) size = refl
