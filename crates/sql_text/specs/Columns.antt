-- The text of columns.
use Rattle.std.specs.Prelude.{ℕ, Bool, true, false, List, [], ◌∷◌, ◌++◌, ◌==◌, ◌&&◌, ◌||◌, if◌then◌else◌}
use Rattle.dd_names.specs.Names.{is_name}
use Rattle.sql_types.specs.Numbers.{is_number_text}
use Rattle.sql_types.specs.declared.choices.IntSize.{IntSize}
use Rattle.sql_types.specs.declared.choices.IntSize.TheVariants.{Tiny, Small, Medium, Normal, Big}
use Rattle.sql_types.specs.declared.literal.Literal.{Literal}
use Rattle.sql_types.specs.declared.literal.Literal.TheVariants.{Null, Number, Str}
use Rattle.sql_types.specs.declared.words.TypeWords.{TypeWords}
use Rattle.sql_types.specs.declared.words.TypeWords.TheVariants as kind
use Rattle.sql_types.specs.declared.words.ColumnWords.{ColumnWords}
use Rattle.sql_pieces.specs.Pieces.{Piece, as_name, as_string, as_sign, as_digits}
use Rattle.sql_text.specs.Parts.{word, number_pieces, where_some, where_true, is_number, if_some}

-- ---- literals

-- a sign and digits, or digits
abbrev pub signed_pieces : List ℕ → List Piece
signed_pieces [] = as_digits [] ∷ []
signed_pieces (c ∷ digits) = if c == 43 || c == 45 then as_sign c ∷ as_digits digits ∷ [] else as_digits (c ∷ digits) ∷ []

-- literal = NULL | [+|-] number | string
abbrev pub literal_pieces : Literal → List Piece
literal_pieces Null = word "NULL" ∷ []
literal_pieces (Number text) = signed_pieces text
literal_pieces (Str text) = as_string text ∷ []

-- ---- types

abbrev pub size_word : IntSize → Piece
size_word Tiny = word "TINYINT"
size_word Small = word "SMALLINT"
size_word Medium = word "MEDIUMINT"
size_word Normal = word "INT"
size_word Big = word "BIGINT"

-- CHAR(1) is CHAR
abbrev pub char_pieces : ℕ → List Piece
char_pieces n = word "CHAR" ∷ (if n == 1 then [] else number_pieces n)

-- type = (TINYINT|SMALLINT|MEDIUMINT|INT|BIGINT) [UNSIGNED] | BOOL | CHAR [( number )] | VARCHAR ( number ) | DATE | DATETIME
abbrev pub type_pieces : TypeWords → List Piece
type_pieces (kind.Int size unsigned) = size_word size ∷ where_true (word "UNSIGNED" ∷ []) unsigned
type_pieces kind.Bool = word "BOOL" ∷ []
type_pieces (kind.Char n) = char_pieces n
type_pieces (kind.VarChar n) = word "VARCHAR" ∷ number_pieces n
type_pieces kind.Date = word "DATE" ∷ []
type_pieces kind.DateTime = word "DATETIME" ∷ []

-- ---- columns

-- NOT NULL | NULL
abbrev pub null_pieces : Bool → List Piece
null_pieces false = word "NOT" ∷ word "NULL" ∷ []
null_pieces true = word "NULL" ∷ []

-- DEFAULT literal
abbrev pub default_pieces : Literal → List Piece
default_pieces literal = word "DEFAULT" ∷ literal_pieces literal

-- [NOT NULL | NULL] [DEFAULT literal] [AUTO_INCREMENT] [UNIQUE] [PRIMARY KEY]
abbrev pub attributes_pieces : ColumnWords → List Piece
attributes_pieces c =
    where_some null_pieces c.nullable ++ (where_some default_pieces c.default ++ (where_true (word "AUTO_INCREMENT" ∷ []) c.auto
    ++ (where_true (word "UNIQUE" ∷ []) c.unique ++ where_true (word "PRIMARY" ∷ word "KEY" ∷ []) c.primary)))

-- name column, where column = type {attribute}
abbrev pub column_pieces : ColumnWords → List Piece
column_pieces c = as_name c.name ∷ (type_pieces c.kind ++ attributes_pieces c)

-- ---- which of these have a text

abbrev pub is_literal : Literal → Bool
is_literal Null = true
is_literal (Number text) = is_number_text text
is_literal (Str text) = true

abbrev pub is_type : TypeWords → Bool
is_type (kind.Char n) = is_number n
is_type (kind.VarChar n) = is_number n
is_type _ = true

abbrev pub is_column : ColumnWords → Bool
is_column c = is_name c.name && is_type c.kind && if_some is_literal c.default
