-- What pieces are to the reader of their text.
use Rattle.std.specs.Prelude.{◌≡◌, ℕ, ◌<◌, ◌^◌, true, List, None, decimal}
use Rattle.std.specs.List.{list_all}
use Rattle.sql_grammar.specs.Lexemes.{Lexeme, Short, value_from}
use Rattle.sql_lex.specs.Lexing.{tokens_of}
use Rattle.sql_lex.specs.Strings.{string_meaning}
use Rattle.sql_lex.specs.Texts.{lexemes}
use Rattle.sql_pieces.specs.Pieces.{Piece, as_digits, as_string, spelled, written, tokens, are_apart, is_alone, spaced}

-- the text has these tokens, no place without a token, and no name that is too long
pub record IsTextOf (text : List ℕ) (ls : List Lexeme) : Type 0 where
  pub same : lexemes text ≡ ls
  pub nowhere_bad : (tokens_of text).1 ≡ None
  pub short : Short ls

-- pieces that are apart are read again
abbrev pub ApartReadBack : Type 0
ApartReadBack = (ps : List Piece) → are_apart ps ≡ true → IsTextOf (written ps) (tokens ps)

-- so are any tokens that one blank divides
abbrev pub SpacedReadBack : Type 0
SpacedReadBack = (ps : List Piece) → list_all is_alone ps ≡ true → IsTextOf (written (spaced ps)) (tokens ps)

-- a number in decimal digits is one token, which has that value
abbrev pub NumbersReadBack : Type 0
NumbersReadBack = (n : ℕ) → n < 2 ^ 128 → (is_alone (as_digits (decimal n)) ≡ true) × (value_from 0 (decimal n) ≡ n)

-- a string in ' with its escapes means the string
abbrev pub StringsReadBack : Type 0
StringsReadBack = (s : List ℕ) → string_meaning (spelled (as_string s)) ≡ s
