-- What a piece is to the tokens.
use Rattle.std.specs.Prelude.{ℕ, Bool, true, false, ◌||◌, ◌&&◌, not, if◌then◌else◌}
use Rattle.sql_lex.specs.declared.piece.Shape.{Shape}
use Rattle.sql_lex.specs.declared.piece.Shape.TheVariants as shapes
use Rattle.sql_lex.specs.declared.piece.Piece.{Piece}
use Rattle.sql_lex.specs.declared.lex.Next.{Next}
use Rattle.sql_lex.specs.declared.lex.Next.TheVariants.{Bad, Gap, Lexeme}
use Rattle.sql_lex.specs.Pieces.{after}
use Rattle.sql_lex.specs.Lexing.{is_bad, is_opening}

abbrev pub next_shape : Bool → Shape → ℕ → Next
next_shape inside (shapes.Lexeme kind) len = Lexeme kind len
next_shape inside s len = Gap len (after inside s)

abbrev pub next_of : Bool → Piece → Bool → Next
next_of inside p closes = if is_bad p.shape || (is_opening p.shape && not closes) then Bad else next_shape inside p.shape p.len
