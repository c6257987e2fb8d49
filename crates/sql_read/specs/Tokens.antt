-- What a token of a text has in it.
use Rattle.std.specs.Prelude.{◌≡◌, ℕ, Bool, true, ◌&&◌, nat_lt, List, length}
use Rattle.std.specs.List.{list_all}
use Rattle.std.specs.Char.{is_ascii_digit}
use Rattle.std.specs.Str.{is_utf8}
use Rattle.dd_names.specs.Names.{is_name_byte}
use Rattle.sql_grammar.specs.Lexemes.{Lexeme, word, number, quoted, string}
use Rattle.sql_lex.specs.declared.token.Token.{Token}
use Rattle.sql_lex.specs.Spans.{IsSpan}
use Rattle.sql_lex.specs.Texts.{lexeme_of}

-- one or more letters, digits and _
abbrev pub is_name_text : List ℕ → Bool
is_name_text w = nat_lt 0 (length w) && list_all is_name_byte w

-- one or more decimal digits
abbrev pub is_digits : List ℕ → Bool
is_digits w = nat_lt 0 (length w) && list_all is_ascii_digit w

-- whether a token has what its kind says; a string means text
abbrev pub is_of_kind : Lexeme → Bool
is_of_kind (word w) = is_name_text w
is_of_kind (quoted w) = is_name_text w
is_of_kind (number w) = is_digits w
is_of_kind (string w) = is_utf8 w
is_of_kind _ = true

-- it lies within the text, and has there what its kind says
pub record IsTokenOf (text : List ℕ) (t : Token) : Type 0 where
  pub span : IsSpan (length text) t
  pub kind : is_of_kind (lexeme_of text t) ≡ true
