-- What a text is to a grammar, and how it reads: as a value, or as bad, with its place.
use Rattle.std.specs.Prelude.{◌≡◌, ℕ, zero, suc, ◌+◌, ◌-◌, List, [], ◌∷◌, ◌++◌, length, map, slice_range, slice_index, Option, Some, None}
use Rattle.sql_grammar.specs.Lexemes.{Lexeme, word, number, quoted, string, sign, broken, content}
use Rattle.sql_grammar.specs.Grammar.{Grammar}
use Rattle.sql_grammar.specs.Judging.{Verdict, good, syntax_at, too_long, Reads, verdict_of}
use Rattle.sql_lex.specs.declared.token.Token.{Token}
use Rattle.sql_lex.specs.declared.token.TokenKind.{TokenKind}
use Rattle.sql_lex.specs.declared.token.TokenKind.TheVariants.{Word, Number, Quoted, Str, Sign}
use Rattle.sql_lex.specs.Strings.{string_meaning}
use Rattle.sql_lex.specs.Lexing.{tokens_of}

abbrev pub lexeme_at : TokenKind → List ℕ → ℕ → ℕ → Lexeme
lexeme_at Word text from to = word (slice_range text from to)
lexeme_at Number text from to = number (slice_range text from to)
lexeme_at Quoted text from to = quoted (slice_range text (from + 1) (to - 1))
lexeme_at Str text from to = string (string_meaning (slice_range text from to))
lexeme_at Sign text from to = sign (slice_index text from)

-- a token with its content
abbrev pub lexeme_of : List ℕ → Token → Lexeme
lexeme_of text t = lexeme_at t.kind text t.from t.to

abbrev pub broken_if : Option ℕ → List Lexeme
broken_if None = []
broken_if (Some at) = broken ∷ []

-- the tokens with their content; a bad place is one last lexeme that no rule takes
unfoldable pub lexemes : List ℕ → List Lexeme
lexemes text = map (lexeme_of text) (tokens_of text).0 ++ broken_if (tokens_of text).1

abbrev pub end_of : ℕ → Option ℕ → ℕ
end_of n None = n
end_of n (Some at) = at

-- where the token numbered k begins; behind them the end
abbrev pub place_at : ℕ → List Token → ℕ → ℕ
place_at k [] end = end
place_at zero (t ∷ ts) end = t.from
place_at (suc k) (t ∷ ts) end = place_at k ts end

-- the byte at which the last n lexemes of the text begin: that of a token, the bad place, or the text's end
unfoldable pub place_of : List ℕ → ℕ → ℕ
place_of text n = place_at (length (lexemes text) - n) (tokens_of text).0 (end_of (length text) (tokens_of text).1)

-- a value; a syntax error at a byte; or a name that is too long
pub data Reading (A : Type 0) : Type 0 where
  sentence : A → Reading A
  syntax_error : ℕ → Reading A
  name_too_long : List ℕ → Reading A

abbrev pub reading_of : {A : Type 0} → List ℕ → Verdict A → Reading A
reading_of text (good v) = sentence v
reading_of text (syntax_at rest) = syntax_error (place_of text (length rest))
reading_of text (too_long l rest) = name_too_long (content l)

-- the text reads so by the grammar
abbrev pub ReadsAs : {A : Type 0} → Grammar A → List ℕ → Reading A → Type 0
ReadsAs {A} g text r = (verdict : Verdict A) × Reads g (lexemes text) verdict × (r ≡ reading_of text verdict)

-- each text reads as the plain reader finds it
abbrev pub EachTextReads : {A : Type 0} → Grammar A → Type 0
EachTextReads g = (text : List ℕ) → ReadsAs g text (reading_of text (verdict_of g (lexemes text)))

-- no text reads in two ways
abbrev pub EachTextReadsOnce : {A : Type 0} → Grammar A → Type 0
EachTextReadsOnce {A} g = (text : List ℕ) (a b : Reading A) → ReadsAs g text a → ReadsAs g text b → a ≡ b
