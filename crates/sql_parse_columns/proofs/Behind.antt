-- The token behind what a rule has read.
use Rattle.std.proofs.Common.{◌≡◌, ℕ, ◌+◌, ◌-◌, ◌<◌, ◌≤◌, false, List, [], ◌++◌, length, map, drop, Option, None, Ok, refl, sym, ap, ◌∙◌, arith}
use Rattle.std.proofs.lemmas.List.{drop_at, drop-drop, length-drop, length-append, length-map}
use Rattle.sql_grammar.specs.Lexemes.{Lexeme}
use Rattle.sql_grammar.specs.Grammar.{Grammar, Says}
use Rattle.sql_grammar.specs.Reading.{null, read}
use Rattle.sql_grammar.proofs.Reader.{sound, taken, shrinks}
use Rattle.sql_lex.specs.declared.token.Token.{Token}
use Rattle.sql_lex.specs.Lexing.{tokens_of}
use Rattle.sql_lex.specs.Texts.{lexeme_of, lexemes, broken_if}

-- a rule gave a value from one token on, with a token, and stopped before the token of another number
pub record StopsBefore {A : Type 0} (g : Grammar A) (text : List ℕ) (n from at : ℕ) (v : A) : Type 0 where
  pub exact : read g (drop from (lexemes text)) ≡ Ok (v, drop at (lexemes text))
  pub says : Says g (drop from (lexemes text)) (drop at (lexemes text)) v
  pub more : from < at
  pub within : at ≤ n

abbrev all_of : List ℕ → List Token × Option ℕ → List Lexeme
all_of text r = map (lexeme_of text) r.0 ++ broken_if r.1

counted : (text : List ℕ) (tokens : List Token) → (tokens, None) ≡ tokens_of text → length (lexemes text) ≡ length tokens
unfolding lexemes
counted text tokens e =
    let a : length (all_of text (tokens_of text)) ≡ length (map (lexeme_of text) tokens ++ []) = ap (λ (r : List Token × Option ℕ). length (all_of text r)) (sym e) in
    let b = length-append (map (lexeme_of text) tokens) [] in
    let c = length-map tokens (lexeme_of text) in
    omega (arith, a, b, c)

pub stops_before : {A : Type 0} (g : Grammar A) → null g ≡ false → (text : List ℕ) (tokens : List Token) (from at : ℕ) (v : A) (after : List Lexeme) → (tokens, None) ≡ tokens_of text → from ≤ length tokens
    → at ≡ length tokens - length after → read g (drop from (lexemes text)) ≡ Ok (v, after) → StopsBefore g text (length tokens) from at v
stops_before g some text tokens from at v after e h a r =
    let before : List Lexeme = drop from (lexemes text) in
    let says = sound g before v after r in
    let t = taken g before after v says in
    let lt = (shrinks g before after v says).lt some in
    let n = counted text tokens e in
    let k : length before ≡ length (lexemes text) - from = length-drop from (lexemes text) in
    let l : length before ≡ length t.front + length after = ap length t.parts ∙ length-append t.front after in
    let sum : at ≡ from + length t.front = omega (arith, n, k, l, h, a) in
    let there : after ≡ drop at (lexemes text) = sym (rw sum (sym (drop-drop (length t.front) from (lexemes text)) ∙ ap (drop (length t.front)) t.parts ∙ drop_at t.front after (length t.front) refl)) in record {
      exact = rw (← there) r;
      says = rw (← there) says;
      more = omega (arith, n, k, l, h, lt, a);
      within = omega (arith, a);
    }
