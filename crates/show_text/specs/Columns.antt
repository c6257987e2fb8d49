-- A column in the text of SHOW CREATE TABLE.
use Rattle.std.specs.Prelude.{ℕ, Bool, true, false, List, [], ◌∷◌, ◌++◌, Option, Some, None, codes}
use Rattle.std.specs.Fmt.{decimal}
use Rattle.sql_types.specs.declared.choices.IntSize.{IntSize}
use Rattle.sql_types.specs.declared.choices.IntSize.TheVariants as sizes
use Rattle.sql_types.specs.declared.choices.ColumnType.{ColumnType}
use Rattle.sql_types.specs.declared.choices.ColumnType.TheVariants as types
use Rattle.dd_definitions.specs.declared.columns.ColumnDef.{ColumnDef}
use Rattle.sql_pieces.specs.Pieces.{quoted_name, quoted_string}

abbrev pub size_text : IntSize → List ℕ
size_text sizes.Tiny = codes "tinyint"
size_text sizes.Small = codes "smallint"
size_text sizes.Medium = codes "mediumint"
size_text sizes.Normal = codes "int"
size_text sizes.Big = codes "bigint"

abbrev pub sign_text : Bool → List ℕ
sign_text true = codes " unsigned"
sign_text false = []

-- a type with its length
abbrev pub with_length : List ℕ → ℕ → List ℕ
with_length word length = word ++ codes "(" ++ decimal length ++ codes ")"

abbrev pub type_text : ColumnType → List ℕ
type_text (types.Int size unsigned) = size_text size ++ sign_text unsigned
type_text types.Bool = codes "tinyint(1)"
type_text (types.Char most) = with_length (codes "char") most
type_text (types.VarChar most) = with_length (codes "varchar") most
type_text types.Date = codes "date"
type_text types.DateTime = codes "datetime"

abbrev pub null_text : Bool → List ℕ
null_text true = []
null_text false = codes " NOT NULL"

-- where there is no default, NULL for a column that may be NULL
abbrev pub no_default : Bool → List ℕ
no_default true = codes " DEFAULT NULL"
no_default false = []

abbrev pub kept_default : Bool → Option (List ℕ) → List ℕ
kept_default nullable (Some text) = codes " DEFAULT " ++ quoted_string text
kept_default nullable None = no_default nullable

abbrev pub default_text : Bool → Bool → Option (List ℕ) → List ℕ
default_text true nullable default = codes " AUTO_INCREMENT"
default_text false nullable default = kept_default nullable default

-- the name, the type, and the attributes
abbrev pub column_text : ColumnDef → List ℕ
column_text column = quoted_name column.name ++ codes " " ++ type_text column.kind ++ null_text column.nullable ++ default_text column.auto column.nullable column.default
