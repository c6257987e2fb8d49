-- What each piece of an input does, by where we are in it.
use Rattle.std.specs.Prelude.{ℕ, ◌+◌, ◌==◌, Bool, true, false, ◌||◌, ◌&&◌, not, List, slice_index, slice_range, if◌then◌else◌}
use Rattle.sql_lex.specs.declared.token.TokenKind.TheVariants.{Word, Sign}
use Rattle.sql_lex.specs.declared.piece.Shape.{Shape}
use Rattle.sql_lex.specs.declared.piece.Shape.TheVariants.{Blank, Comment, Lexeme, Unended}
use Rattle.sql_lex.specs.declared.piece.Piece.{Piece}
use Rattle.sql_lex.specs.Pieces.{after}
use Rattle.script_cut.specs.declared.item.Item.TheVariants.{SessionLine, BadLine, Statement, CutComment}
use Rattle.script_cut.specs.declared.moves.State.{State}
use Rattle.script_cut.specs.declared.moves.State.TheVariants.{Between, Within, Session, Named}
use Rattle.script_cut.specs.declared.moves.Move.{Move}
use Rattle.script_cut.specs.declared.moves.Move.TheVariants.{Goes, Makes, Ends}
use Rattle.script_cut.specs.Names.{is_plain_name, is_session}

abbrev pub is_blank : Shape → Bool
is_blank Blank = true
is_blank _ = false

-- what is passed over outside statements: blanks and whole comments
abbrev pub is_passed : Shape → Bool
is_passed Blank = true
is_passed Comment = true
is_passed _ = false

abbrev pub is_word : Shape → Bool
is_word (Lexeme Word) = true
is_word _ = false

abbrev pub is_sign : Shape → Bool
is_sign (Lexeme Sign) = true
is_sign _ = false

abbrev pub is_unended : Shape → Bool
is_unended Unended = true
is_unended _ = false

-- a ; that is a token
unfoldable pub is_semicolon : List ℕ → ℕ → Shape → Bool
is_semicolon text at shape = is_sign shape && slice_index text at == 59

-- a comment that the input's end cuts, which begins with a slash as no quote does
unfoldable pub is_cut_comment : List ℕ → ℕ → Shape → Bool
is_cut_comment text at shape = is_unended shape && slice_index text at == 47

-- the word `session`, in any case
unfoldable pub begins_line : List ℕ → ℕ → Piece → Bool
begins_line text at p = is_word p.shape && is_session (slice_range text at (at + p.len))

-- a word that is a name of 64 characters at most
unfoldable pub is_line_name : List ℕ → ℕ → Piece → Bool
is_line_name text at p = is_word p.shape && is_plain_name (slice_range text at (at + p.len))

-- a line feed, which ends a session line
abbrev pub is_line_feed : List ℕ → ℕ → Bool
is_line_feed text at = slice_index text at == 10

-- Between statements blanks, comments and ; are passed over, the word `session` begins a session line, and anything else a
-- statement, a version comment too.
unfoldable pub between : List ℕ → ℕ → Piece → Move
between text at p =
    if is_passed p.shape || is_semicolon text at p.shape then Goes Between
    else if is_cut_comment text at p.shape then Ends (CutComment at)
    else if begins_line text at p then Goes (Session at)
    else Goes (Within at (after false p.shape))

-- In a statement a ; ends it, outside quotes and comments, and version comments too.
unfoldable pub within : List ℕ → ℕ → Bool → ℕ → Piece → Move
within text from inside at p =
    if not inside && is_semicolon text at p.shape then Makes (Statement from at) else Goes (Within from (after inside p.shape))

-- Behind the word `session` stand blanks other than a line feed, and then a name.
unfoldable pub behind_session : List ℕ → ℕ → ℕ → Piece → Move
behind_session text line at p =
    if is_blank p.shape && not (is_line_feed text at) then Goes (Session line)
    else if is_line_name text at p then Goes (Named line at (at + p.len))
    else Ends (BadLine line)

-- Behind the name stand blanks, up to the end of the line or of the input.
unfoldable pub behind_name : List ℕ → ℕ → ℕ → ℕ → ℕ → Piece → Move
behind_name text line from to at p =
    if not (is_blank p.shape) then Ends (BadLine line)
    else if is_line_feed text at then Makes (SessionLine line from to)
    else Goes (Named line from to)

abbrev pub move_of : List ℕ → State → ℕ → Piece → Move
move_of text Between at p = between text at p
move_of text (Within from inside) at p = within text from inside at p
move_of text (Session line) at p = behind_session text line at p
move_of text (Named line from to) at p = behind_name text line from to at p
