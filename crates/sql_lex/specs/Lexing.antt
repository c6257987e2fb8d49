-- The tokens of a text, and its least bad place.
use Rattle.std.specs.Prelude.{◌≡◌, ℕ, ◌+◌, Bool, true, false, List, [], ◌∷◌, Option, Some, None, ◌||◌, ◌&&◌, not, if◌then◌else◌}
use Rattle.sql_lex.specs.declared.token.Token.{Token}
use Rattle.sql_lex.specs.declared.token.LexFault.{LexFault}
use Rattle.sql_lex.specs.declared.token.LexFault.TheVariants.{Bad, Memory}
use Rattle.sql_lex.specs.declared.piece.Shape.{Shape}
use Rattle.sql_lex.specs.declared.piece.Shape.TheVariants.{Blank, Comment, Opening, Closing, Lexeme, Stray, Unended}
use Rattle.sql_lex.specs.declared.piece.Piece.{Piece}
use Rattle.sql_lex.specs.Pieces.{pieces}

-- neither a token nor passed over
abbrev pub is_bad : Shape → Bool
is_bad Stray = true
is_bad Unended = true
is_bad _ = false

abbrev pub is_opening : Shape → Bool
is_opening Opening = true
is_opening _ = false

abbrev pub is_closing : Shape → Bool
is_closing Closing = true
is_closing _ = false

-- some piece closes a version comment
abbrev pub has_closing : List Piece → Bool
has_closing [] = false
has_closing (p ∷ ps) = is_closing p.shape || has_closing ps

abbrev pub with_token : Shape → ℕ → ℕ → List Token × Option ℕ → List Token × Option ℕ
with_token (Lexeme kind) from to r = (record { kind = kind; from = from; to = to } ∷ r.0, r.1)
with_token _ from to r = r

-- The tokens before the least bad place, and that place, where the first piece stands at a byte. A version comment that
-- nothing closes is bad where it opens.
abbrev pub lexed : ℕ → List Piece → List Token × Option ℕ
lexed at [] = ([], None)
lexed at (p ∷ ps) = if is_bad p.shape || (is_opening p.shape && not (has_closing ps)) then ([], Some at) else with_token p.shape at (at + p.len) (lexed (at + p.len) ps)

-- the tokens of a text before its least bad place, and that place, if there is one
abbrev pub tokens_of : List ℕ → List Token × Option ℕ
tokens_of text = lexed 0 (pieces text)

-- the fault tells the least bad place
abbrev pub IsBadAt : LexFault → List ℕ → Type 0
IsBadAt (Bad at) text = (tokens_of text).1 ≡ Some at
IsBadAt Memory text = ⊥
