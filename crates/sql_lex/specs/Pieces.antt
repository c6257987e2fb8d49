-- Every text is cut into pieces that stand end to end: what is passed over, tokens, and what is neither.
use Rattle.std.specs.Prelude.{ℕ, zero, suc, ◌+◌, ◌-◌, Bool, true, false, List, [], ◌∷◌, length, take, drop, Option, Some, None, ◌==◌, ◌||◌, ◌&&◌, if◌then◌else◌, take_while, nat_lt}
use Rattle.std.specs.List.{list_all}
use Rattle.std.specs.Char.{is_ascii_digit}
use Rattle.dd_names.specs.Names.{is_name_byte}
use Rattle.sql_lex.specs.declared.token.TokenKind.TheVariants.{Word, Number, Quoted, Str, Sign}
use Rattle.sql_lex.specs.declared.piece.Shape.{Shape}
use Rattle.sql_lex.specs.declared.piece.Shape.TheVariants.{Blank, Comment, Opening, Closing, Lexeme, Stray, Unended}
use Rattle.sql_lex.specs.declared.piece.Piece.{Piece}
use Rattle.sql_lex.specs.declared.reach.Until.TheVariants.{CommentEnd, BackQuote, Quote}
use Rattle.sql_lex.specs.Bytes.{is_blank, is_sign, is_inside_line}
use Rattle.sql_lex.specs.Ends.{starts_with_2, starts_with_3, reach}

-- two dashes, and then a blank or the end
abbrev pub is_dash_comment : List ℕ → Bool
is_dash_comment (a ∷ b ∷ []) = a == 45 && b == 45
is_dash_comment (a ∷ b ∷ c ∷ bs) = a == 45 && b == 45 && is_blank c
is_dash_comment _ = false

-- ---- what stands at the front

abbrev pub piece : Shape → ℕ → Piece
piece shape len = record { shape = shape; len = len }

-- no token begins here
abbrev pub stray_piece : Piece
stray_piece = piece Stray 1

-- it goes up to the end that was found, n bytes behind k bytes that open it; without one it takes the rest
abbrev pub ended : Shape → ℕ → ℕ → Option ℕ → Piece
ended shape k rest None = piece Unended (k + rest)
ended shape k rest (Some n) = piece shape (k + n)

-- the longest run of letters, digits and _
unfoldable pub run : List ℕ → List ℕ
run bs = take_while is_name_byte bs

-- a word, or a number where there are digits alone
unfoldable pub word_piece : List ℕ → Piece
word_piece bs = piece (Lexeme (if list_all is_ascii_digit (run bs) then Number else Word)) (length (run bs))

-- a comment to the end of the line, or of the text
unfoldable pub line_piece : List ℕ → Piece
line_piece bs = piece Comment (length (take_while is_inside_line bs))

-- up to the next back quote: a name where a run of letters, digits and _ that isn't empty is all of it
unfoldable pub quoted_shape : List ℕ → Option ℕ → Shape
quoted_shape bs None = Stray
quoted_shape bs (Some n) = if nat_lt 0 (length (run bs)) && n == length (run bs) + 1 then Lexeme Quoted else Stray

unfoldable pub quoted_piece : List ℕ → Piece
quoted_piece bs = ended (quoted_shape bs (reach BackQuote bs 0)) 1 (length bs) (reach BackQuote bs 0)

unfoldable pub string_piece : ℕ → List ℕ → Piece
string_piece q bs = ended (Lexeme Str) 1 (length bs) (reach (Quote q) bs 0)

-- behind the slash and the star
unfoldable pub comment_piece : List ℕ → Piece
comment_piece bs = ended Comment 2 (length bs) (reach CommentEnd bs 0)

-- behind /*!: five digits where five stand there, else none
unfoldable pub opening_piece : List ℕ → Piece
opening_piece bs = piece Opening (if length (take 5 bs) == 5 && list_all is_ascii_digit (take 5 bs) then 8 else 3)

-- inside tells whether we are in a version comment, which has none within
unfoldable pub slash_piece : Bool → List ℕ → Piece
slash_piece inside bs =
    if starts_with_3 47 42 33 bs then (if inside then stray_piece else opening_piece (drop 3 bs))
    else if starts_with_2 47 42 bs then comment_piece (drop 2 bs)
    else stray_piece

unfoldable pub star_piece : Bool → List ℕ → Piece
star_piece inside bs = if inside && starts_with_2 42 47 bs then piece Closing 2 else piece (Lexeme Sign) 1

unfoldable pub front : Bool → ℕ → List ℕ → Piece
front inside b bs =
    if is_blank b then piece Blank 1
    else if b == 35 || is_dash_comment (b ∷ bs) then line_piece (b ∷ bs)
    else if b == 47 then slash_piece inside (b ∷ bs)
    else if b == 42 then star_piece inside (b ∷ bs)
    else if is_name_byte b then word_piece (b ∷ bs)
    else if b == 96 then quoted_piece bs
    else if b == 39 || b == 34 then string_piece b bs
    else if is_sign b then piece (Lexeme Sign) 1
    else stray_piece

abbrev pub front_of : Bool → List ℕ → Piece
front_of inside [] = stray_piece
front_of inside (b ∷ bs) = front inside b bs

-- ---- the whole text

-- whether what follows a piece is in a version comment
abbrev pub after : Bool → Shape → Bool
after inside Opening = true
after inside Closing = false
after inside _ = inside

-- the pieces behind k bytes that are passed over
abbrev pub cut : List ℕ → ℕ → Bool → List Piece
cut [] k inside = []
cut (b ∷ bs) (suc k) inside = cut bs k inside
cut (b ∷ bs) zero inside = front inside b bs ∷ cut bs ((front inside b bs).len - 1) (after inside (front inside b bs).shape)

abbrev pub pieces : List ℕ → List Piece
pieces text = cut text 0 false

-- how many bytes the pieces have
abbrev pub bytes_in : List Piece → ℕ
bytes_in [] = 0
bytes_in (p ∷ ps) = p.len + bytes_in ps
