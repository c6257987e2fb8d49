-- The text of SHOW CREATE TABLE, piece by piece.
use Rattle.std.specs.Prelude.{ℕ, Bool, true, false, List, [], ◌∷◌, ◌++◌, Option, Some, None, flat_map, codes}
use Rattle.sql_types.specs.declared.choices.IntSize.{IntSize}
use Rattle.sql_types.specs.declared.choices.IntSize.TheVariants as sizes
use Rattle.sql_types.specs.declared.choices.ColumnType.{ColumnType}
use Rattle.sql_types.specs.declared.choices.ColumnType.TheVariants as types
use Rattle.sql_types.specs.declared.choices.IndexClass.{IndexClass}
use Rattle.sql_types.specs.declared.choices.IndexClass.TheVariants as classes
use Rattle.sql_types.specs.declared.choices.FkRule.{FkRule}
use Rattle.sql_types.specs.declared.choices.FkRule.TheVariants as rules
use Rattle.dd_definitions.specs.declared.columns.ColumnDef.{ColumnDef}
use Rattle.dd_definitions.specs.declared.indexes.IndexDef.{IndexDef}
use Rattle.dd_definitions.specs.declared.foreign_keys.ForeignKeyDef.{ForeignKeyDef}
use Rattle.dd_definitions.specs.declared.parts.TableParts.{TableParts}
use Rattle.sql_pieces.specs.Pieces.{Piece, gap, as_name, as_digits, as_string, as_sign, blank}
use Rattle.sql_text.specs.Parts.{word, comma, opens, closes, names_pieces, number_pieces, object_pieces}
use Rattle.show_text_laws.specs.Said.{parent_said}

-- ---- columns

abbrev pub size_word : IntSize → Piece
size_word sizes.Tiny = word "tinyint"
size_word sizes.Small = word "smallint"
size_word sizes.Medium = word "mediumint"
size_word sizes.Normal = word "int"
size_word sizes.Big = word "bigint"

abbrev pub sign_pieces : Bool → List Piece
sign_pieces true = blank ∷ word "unsigned" ∷ []
sign_pieces false = []

abbrev pub type_pieces : ColumnType → List Piece
type_pieces (types.Int size unsigned) = size_word size ∷ sign_pieces unsigned
type_pieces types.Bool = word "tinyint" ∷ opens ∷ as_digits (codes "1") ∷ closes ∷ []
type_pieces (types.Char most) = word "char" ∷ number_pieces most
type_pieces (types.VarChar most) = word "varchar" ∷ number_pieces most
type_pieces types.Date = word "date" ∷ []
type_pieces types.DateTime = word "datetime" ∷ []

abbrev pub null_pieces : Bool → List Piece
null_pieces true = []
null_pieces false = blank ∷ word "NOT" ∷ blank ∷ word "NULL" ∷ []

abbrev pub default_pieces : Bool → Bool → Option (List ℕ) → List Piece
default_pieces true nullable default = blank ∷ word "AUTO_INCREMENT" ∷ []
default_pieces false nullable (Some text) = blank ∷ word "DEFAULT" ∷ blank ∷ as_string text ∷ []
default_pieces false true None = blank ∷ word "DEFAULT" ∷ blank ∷ word "NULL" ∷ []
default_pieces false false None = []

abbrev pub attribute_pieces : ColumnDef → List Piece
attribute_pieces column = null_pieces column.nullable ++ default_pieces column.auto column.nullable column.default

-- the name, the type, and the attributes
abbrev pub column_pieces : ColumnDef → List Piece
column_pieces column = as_name column.name ∷ blank ∷ (type_pieces column.kind ++ attribute_pieces column)

-- ---- keys

-- the class with the name, which a primary key doesn't show
abbrev pub class_pieces : IndexClass → List ℕ → List Piece
class_pieces classes.Primary name = word "PRIMARY" ∷ blank ∷ word "KEY" ∷ blank ∷ []
class_pieces classes.Unique name = word "UNIQUE" ∷ blank ∷ word "KEY" ∷ blank ∷ as_name name ∷ blank ∷ []
class_pieces classes.Plain name = word "KEY" ∷ blank ∷ as_name name ∷ blank ∷ []

abbrev pub index_pieces : IndexDef → List Piece
index_pieces index = class_pieces index.class index.name ++ names_pieces index.columns

-- nothing for NO ACTION
abbrev pub rule_pieces : Piece → FkRule → List Piece
rule_pieces event rules.NoAction = []
rule_pieces event rules.Restrict = blank ∷ word "ON" ∷ blank ∷ event ∷ blank ∷ word "RESTRICT" ∷ []
rule_pieces event rules.Cascade = blank ∷ word "ON" ∷ blank ∷ event ∷ blank ∷ word "CASCADE" ∷ []
rule_pieces event rules.SetNull = blank ∷ word "ON" ∷ blank ∷ event ∷ blank ∷ word "SET" ∷ blank ∷ word "NULL" ∷ []

-- the parent columns, and what becomes of rows
abbrev pub rules_pieces : ForeignKeyDef → List Piece
rules_pieces key = names_pieces key.parent_columns ++ (rule_pieces (word "DELETE") key.on_delete ++ rule_pieces (word "UPDATE") key.on_update)

-- what stands behind FOREIGN KEY
abbrev pub reference_pieces : List ℕ → ForeignKeyDef → List Piece
reference_pieces schema key =
    names_pieces key.columns ++ blank ∷ word "REFERENCES" ∷ blank ∷ (object_pieces (parent_said schema key.parent) ++ blank ∷ rules_pieces key)

-- a foreign key of a table in the schema
abbrev pub foreign_key_pieces : List ℕ → ForeignKeyDef → List Piece
foreign_key_pieces schema key =
    word "CONSTRAINT" ∷ blank ∷ as_name key.name ∷ blank ∷ word "FOREIGN" ∷ blank ∷ word "KEY" ∷ blank ∷ reference_pieces schema key

-- ---- the table

-- behind a comma, on a line of its own
abbrev pub next_line : List Piece → List Piece
next_line pieces = comma ∷ gap (10 ∷ 32 ∷ 32 ∷ []) ∷ pieces

abbrev pub column_line : ColumnDef → List Piece
column_line column = next_line (column_pieces column)

abbrev pub index_line : IndexDef → List Piece
index_line index = next_line (index_pieces index)

abbrev pub foreign_key_line : List ℕ → ForeignKeyDef → List Piece
foreign_key_line schema key = next_line (foreign_key_pieces schema key)

abbrev pub key_lines : TableParts → List Piece
key_lines parts = flat_map index_line parts.indexes ++ flat_map (foreign_key_line parts.name.schema) parts.foreign_keys

-- the lines of the columns, in front of others
abbrev pub lines_before : List ColumnDef → List Piece → List Piece
lines_before [] others = others
lines_before (column ∷ columns) others = gap (32 ∷ 32 ∷ []) ∷ (column_pieces column ++ (flat_map column_line columns ++ others))

abbrev pub elements_pieces : TableParts → List Piece
elements_pieces parts = lines_before parts.columns (key_lines parts) ++ gap (10 ∷ []) ∷ closes ∷ []

abbrev pub options_pieces : List Piece
options_pieces =
    blank ∷ word "ENGINE" ∷ as_sign 61 ∷ word "InnoDB" ∷ blank ∷ word "DEFAULT" ∷ blank ∷ word "CHARSET" ∷ as_sign 61 ∷ word "utf8mb4"
    ∷ blank ∷ word "COLLATE" ∷ as_sign 61 ∷ word "utf8mb4_0900_ai_ci" ∷ []

abbrev pub table_pieces : TableParts → List Piece
table_pieces parts =
    word "CREATE" ∷ blank ∷ word "TABLE" ∷ blank ∷ as_name parts.name.name ∷ blank ∷ opens ∷ gap (10 ∷ []) ∷ (elements_pieces parts ++ options_pieces)
