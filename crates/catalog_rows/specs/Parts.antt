-- The parts of tables and views as fields of rows.
use Rattle.std.specs.Prelude.{ℕ, ◌+◌, Bool, true, false, List, [], ◌∷◌, ◌++◌, length, get_or, position, if◌then◌else◌}
use Rattle.std.specs.List.{flat_map}
use Rattle.std.specs.Option.{unwrap_or}
use Rattle.std.specs.Str.{bytes_eq}
use Rattle.sql_types.specs.declared.choices.IntSize.{IntSize}
use Rattle.sql_types.specs.declared.choices.IntSize.TheVariants as sizes
use Rattle.sql_types.specs.declared.choices.ColumnType.{ColumnType}
use Rattle.sql_types.specs.declared.choices.ColumnType.TheVariants as types
use Rattle.sql_types.specs.declared.choices.IndexClass.{IndexClass}
use Rattle.sql_types.specs.declared.choices.IndexClass.TheVariants as classes
use Rattle.sql_types.specs.declared.choices.FkRule.{FkRule}
use Rattle.sql_types.specs.declared.choices.FkRule.TheVariants as rules
use Rattle.dd_definitions.specs.declared.columns.ColumnDef.{ColumnDef}
use Rattle.dd_definitions.specs.declared.indexes.IndexDef.{IndexDef}
use Rattle.dd_definitions.specs.declared.foreign_keys.ForeignKeyDef.{ForeignKeyDef}
use Rattle.dd_definitions.specs.declared.view_parts.ViewSource.{ViewSource}
use Rattle.dd_definitions.specs.declared.view_parts.ViewColumn.{ViewColumn}
use Rattle.dd_definitions.specs.declared.view_parts.ViewParts.{ViewParts}
use Rattle.row_fields.specs.declared.fields.Field.{Field}
use Rattle.row_fields.specs.declared.fields.Field.TheVariants.{Byte, Short, Long, Text, Maybe}

-- ## Numbers of choices

abbrev pub flag : Bool → ℕ
flag true = 1
flag false = 0

abbrev pub size_number : IntSize → ℕ
size_number sizes.Tiny = 1
size_number sizes.Small = 2
size_number sizes.Medium = 3
size_number sizes.Normal = 4
size_number sizes.Big = 5

-- 1 to 5 are the integers by their sizes, 6 to 10 the unsigned ones
abbrev pub type_number : ColumnType → ℕ
type_number (types.Int size unsigned) = if unsigned then size_number size + 5 else size_number size
type_number types.Bool = 11
type_number (types.Char most) = 12
type_number (types.VarChar most) = 13
type_number types.Date = 14
type_number types.DateTime = 15

-- how many characters a text may have; 0 for what is no text
abbrev pub type_length : ColumnType → ℕ
type_length (types.Int size unsigned) = 0
type_length types.Bool = 0
type_length (types.Char most) = most
type_length (types.VarChar most) = most
type_length types.Date = 0
type_length types.DateTime = 0

abbrev pub class_number : IndexClass → ℕ
class_number classes.Primary = 1
class_number classes.Unique = 2
class_number classes.Plain = 3

abbrev pub rule_number : FkRule → ℕ
rule_number rules.NoAction = 0
rule_number rules.Restrict = 1
rule_number rules.Cascade = 2
rule_number rules.SetNull = 3

-- ## Parts of a table

-- a column's name, type, length, whether it may be NULL, whether it is auto, and its default
abbrev pub column_fields : ColumnDef → List Field
column_fields column =
    Text column.name ∷ Byte (type_number column.kind) ∷ Short (type_length column.kind) ∷ Byte (flag column.nullable) ∷ Byte (flag column.auto) ∷ Maybe column.default ∷ []

-- an index's name and class
abbrev pub index_fields : IndexDef → List Field
index_fields index = Text index.name ∷ Byte (class_number index.class) ∷ []

-- the place of a column among the columns of its table, from 0; their number where it isn't there
unfoldable pub column_place : List ColumnDef → List ℕ → ℕ
column_place columns name = unwrap_or (position (λ (c : ColumnDef). bytes_eq c.name name) columns) (length columns)

-- a column of an index, by its place in the table
abbrev pub index_column_fields : List ColumnDef → List ℕ → List Field
index_column_fields columns name = Short (column_place columns name) ∷ []

-- a foreign key's name, its parent, and its rules
abbrev pub key_fields : ForeignKeyDef → List Field
key_fields key = Text key.name ∷ Text key.parent.schema ∷ Text key.parent.name ∷ Byte (rule_number key.on_delete) ∷ Byte (rule_number key.on_update) ∷ []

-- a column of a foreign key, by its place in the table, and the parent's column at the same place of the key
abbrev pub key_column_fields : List ColumnDef → List (List ℕ) → ℕ → List ℕ → List Field
key_column_fields columns parents place name = Short (column_place columns name) ∷ Text (get_or parents place []) ∷ []

-- ## Parts of a view

-- the name of an object that a view reads, and its alias
abbrev pub source_fields : ViewSource → List Field
source_fields source = Text source.object.schema ∷ Text source.object.name ∷ Text source.alias ∷ []

-- an output's source, the column there, and its own name
abbrev pub output_fields : ViewColumn → List Field
output_fields output = Long output.source ∷ Text output.column ∷ Text output.output ∷ []

-- the sources behind their number, and the outputs behind theirs
unfoldable pub view_fields : ViewParts → List Field
view_fields parts = (Long (length parts.sources) ∷ flat_map source_fields parts.sources) ++ (Short (length parts.outputs) ∷ flat_map output_fields parts.outputs)
