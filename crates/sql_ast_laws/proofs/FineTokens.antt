-- The tokens of a text are what a reader takes them for.
use Rattle.std.proofs.Common.{◌≡◌, ℕ, true, false, List, [], ◌∷◌, ◌++◌, map, Option, Some, None, refl}
use Rattle.std.specs.List.{All}
use Rattle.std.specs.Str.{IsUtf8}
use Rattle.std.proofs.lemmas.List.Elements.{All-head, All-tail}
use Rattle.sql_grammar.specs.Lexemes.{Lexeme, broken, is_long, Short}
use Rattle.sql_lex.specs.declared.token.Token.{Token}
use Rattle.sql_lex.specs.declared.token.TokenKind.{TokenKind}
use Rattle.sql_lex.specs.declared.token.TokenKind.TheVariants.{Word, Number, Quoted, Str, Sign}
use Rattle.sql_lex.specs.Lexing.{tokens_of}
use Rattle.sql_lex.specs.Texts.{lexeme_at, lexeme_of, broken_if, lexemes}
use Rattle.sql_read.specs.Tokens.{IsTokenOf, is_of_kind}
use Rattle.sql_read.proofs.Made.{tokens_are_of_text}
use Rattle.sql_ast_laws.proofs.Yields.{is_full, AreFine}

-- ---- each token

full_at : (kind : TokenKind) (text : List ℕ) (from to : ℕ) → is_of_kind (lexeme_at kind text from to) ≡ true → is_full (lexeme_at kind text from to) ≡ true
full_at Word text from to h = h
full_at Quoted text from to h = h
full_at Number text from to h = h
full_at Str text from to h = refl
full_at Sign text from to h = refl

full_token : (text : List ℕ) (t : Token) → IsTokenOf text t → is_full (lexeme_of text t) ≡ true
full_token text t h = full_at t.kind text t.from t.to h.kind

-- ---- all tokens of a text

full_and_short : (l : Lexeme) (ls : List Lexeme) → is_full l ≡ true → is_long l ≡ false → AreFine ls → AreFine (l ∷ ls)
full_and_short l ls h k more = rw (h, k) more

all_fine : (text : List ℕ) (ts : List Token) (end : List Lexeme) → All (IsTokenOf text) ts → Short (map (lexeme_of text) ts ++ end) → (Short end → AreFine end) → AreFine (map (lexeme_of text) ts ++ end)
all_fine text [] end h s last = last s
all_fine text (t ∷ ts) end h s last =
    full_and_short (lexeme_of text t) (map (lexeme_of text) ts ++ end) (full_token text t (All-head (IsTokenOf text) t ts h)) s.0 (all_fine text ts end (All-tail (IsTokenOf text) t ts h) s.1 last)

end_fine : (o : Option ℕ) → Short (broken_if o) → AreFine (broken_if o)
end_fine None s = refl
end_fine (Some at) s = full_and_short broken [] refl s.0 refl

pub text_fine : (text : List ℕ) → IsUtf8 text → Short (lexemes text) → AreFine (lexemes text)
unfolding lexemes
text_fine text u s = all_fine text (tokens_of text).0 (broken_if (tokens_of text).1) (tokens_are_of_text text (tokens_of text) u refl) s (end_fine (tokens_of text).1)
