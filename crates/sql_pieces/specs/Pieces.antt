-- A text as the pieces that it is written from: tokens, and what stands between them.
use Rattle.std.specs.Prelude.{◌≡◌, ℕ, Bool, true, false, List, [], ◌∷◌, ◌++◌, length, flat_map, nat_lt, nat_le, ◌==◌, ◌&&◌, not, if◌then◌else◌}
use Rattle.std.specs.List.{list_all}
use Rattle.std.specs.Char.{is_ascii_digit}
use Rattle.dd_names.specs.Names.{is_name_byte, is_name}
use Rattle.sql_grammar.specs.Lexemes.{Lexeme}
use Rattle.sql_grammar.specs.Lexemes as lexemes
use Rattle.sql_lex.specs.Bytes.{is_blank, is_sign}

-- blanks between two tokens, a word of the grammar, a name in back quotes, digits, a string, and a sign
pub data Piece : Type 0 where
  gap : List ℕ → Piece
  as_word : List ℕ → Piece
  as_name : List ℕ → Piece
  as_digits : List ℕ → Piece
  as_string : List ℕ → Piece
  as_sign : ℕ → Piece

-- ---- the bytes

-- a byte of a string as it is written between two '
abbrev pub escaped_byte : ℕ → List ℕ
escaped_byte b =
    if b == 39 then 39 ∷ 39 ∷ []
    else if b == 92 then 92 ∷ 92 ∷ []
    else if b == 10 then 92 ∷ 110 ∷ []
    else if b == 13 then 92 ∷ 114 ∷ []
    else if b == 0 then 92 ∷ 48 ∷ []
    else b ∷ []

abbrev pub escaped : List ℕ → List ℕ
escaped bytes = flat_map escaped_byte bytes

-- a name in back quotes
abbrev pub quoted_name : List ℕ → List ℕ
quoted_name n = 96 ∷ (n ++ 96 ∷ [])

-- a string between two '
abbrev pub quoted_string : List ℕ → List ℕ
quoted_string s = 39 ∷ (escaped s ++ 39 ∷ [])

abbrev pub spelled : Piece → List ℕ
spelled (gap bs) = bs
spelled (as_word w) = w
spelled (as_name n) = quoted_name n
spelled (as_digits ds) = ds
spelled (as_string s) = quoted_string s
spelled (as_sign c) = c ∷ []

-- the pieces one behind the other
abbrev pub written : List Piece → List ℕ
written [] = []
written (p ∷ ps) = spelled p ++ written ps

-- ---- the tokens

-- the token of a piece; a gap has none
abbrev pub token_of : Piece → List Lexeme
token_of (gap bs) = []
token_of (as_word w) = lexemes.word w ∷ []
token_of (as_name n) = lexemes.quoted n ∷ []
token_of (as_digits ds) = lexemes.number ds ∷ []
token_of (as_string s) = lexemes.string s ∷ []
token_of (as_sign c) = lexemes.sign c ∷ []

abbrev pub tokens : List Piece → List Lexeme
tokens [] = []
tokens (p ∷ ps) = token_of p ++ tokens ps

-- ---- which pieces are tokens of their own

-- no run of letters, digits and _ goes on into these bytes
abbrev pub ends_run : List ℕ → Bool
ends_run [] = true
ends_run (b ∷ bs) = not (is_name_byte b)

abbrev pub begins_with : ℕ → List ℕ → Bool
begins_with c [] = false
begins_with c (b ∷ bs) = b == c

-- Before these bytes the piece is one token, or blanks: a word or a number may not go on, a string may not be followed by
-- its quote, nor a dash by a dash.
abbrev pub fits : Piece → List ℕ → Bool
fits (gap bs) rest = list_all is_blank bs
fits (as_word w) rest = is_name w && not (list_all is_ascii_digit w) && ends_run rest
fits (as_name n) rest = is_name n
fits (as_digits ds) rest = nat_lt 0 (length ds) && list_all is_ascii_digit ds && ends_run rest
fits (as_string s) rest = not (begins_with 39 rest)
fits (as_sign c) rest = is_sign c && not (c == 45 && begins_with 45 rest)

-- each piece is so before those that follow it
abbrev pub are_apart : List Piece → Bool
are_apart [] = true
are_apart (p ∷ ps) = fits p (written ps) && are_apart ps

-- ---- tokens divided by one blank

abbrev pub blank : Piece
blank = gap (32 ∷ [])

-- each behind a blank
abbrev pub behind_blanks : List Piece → List Piece
behind_blanks [] = []
behind_blanks (p ∷ ps) = blank ∷ p ∷ behind_blanks ps

-- the bytes of pieces, each behind a blank
abbrev pub behind : List Piece → List ℕ
behind ps = written (behind_blanks ps)

-- a text with these pieces more, each behind a blank
pub record Adds (before after : List ℕ) (ps : List Piece) : Type 0 where
  pub bytes : after ≡ before ++ behind ps

abbrev pub spaced : List Piece → List Piece
spaced [] = []
spaced (p ∷ ps) = p ∷ behind_blanks ps

-- the piece is a token of its own where nothing that follows could belong to it
abbrev pub is_alone : Piece → Bool
is_alone p = fits p []
