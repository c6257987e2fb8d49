-- Where tokens stand in a text.
use Rattle.std.specs.Prelude.{◌≡◌, ℕ, ◌+◌, ◌≤◌, ◌<◌, Bool, true, false, List, [], ◌∷◌}
use Rattle.sql_lex.specs.declared.token.Token.{Token}
use Rattle.sql_lex.specs.declared.token.TokenKind.{TokenKind}
use Rattle.sql_lex.specs.declared.token.TokenKind.TheVariants.{Quoted, Str}

-- it begins and ends with a quote
abbrev pub is_quoted : TokenKind → Bool
is_quoted Quoted = true
is_quoted Str = true
is_quoted _ = false

-- a token lies within a text of n bytes and has some; one with quotes has both
pub record IsSpan (n : ℕ) (t : Token) : Type 0 where
  pub some : t.from < t.to
  pub quotes : is_quoted t.kind ≡ true → t.from + 2 ≤ t.to
  pub within : t.to ≤ n

-- the tokens stand one behind the other, from a place on
abbrev pub InOrder : ℕ → List Token → Type 0
InOrder at [] = Unit {0}
InOrder at (t ∷ ts) = (at ≤ t.from) × (t.from < t.to) × InOrder t.to ts
