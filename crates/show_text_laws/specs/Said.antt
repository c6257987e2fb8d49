-- The statement that the text of SHOW CREATE TABLE is.
use Rattle.std.specs.Prelude.{ℕ, Bool, true, false, List, ◌++◌, map, Option, Some, None}
use Rattle.std.specs.Str.{bytes_eq}
use Rattle.dd_names.specs.declared.object_name.ObjName.{ObjName}
use Rattle.sql_types.specs.declared.choices.ColumnType.{ColumnType}
use Rattle.sql_types.specs.declared.choices.ColumnType.TheVariants as types
use Rattle.sql_types.specs.declared.choices.IndexClass.{IndexClass}
use Rattle.sql_types.specs.declared.choices.IndexClass.TheVariants as classes
use Rattle.sql_types.specs.declared.literal.Literal.{Literal}
use Rattle.sql_types.specs.declared.literal.Literal.TheVariants as literals
use Rattle.sql_types.specs.declared.words.TypeWords.{TypeWords}
use Rattle.sql_types.specs.declared.words.TypeWords.TheVariants as words
use Rattle.sql_types.specs.declared.words.ColumnWords.{ColumnWords}
use Rattle.sql_types.specs.declared.words.KeyWords.{KeyWords}
use Rattle.sql_types.specs.declared.words.FkWords.{FkWords}
use Rattle.sql_types.specs.declared.words.ObjRef.{ObjRef}
use Rattle.dd_definitions.specs.declared.columns.ColumnDef.{ColumnDef}
use Rattle.dd_definitions.specs.declared.indexes.IndexDef.{IndexDef}
use Rattle.dd_definitions.specs.declared.foreign_keys.ForeignKeyDef.{ForeignKeyDef}
use Rattle.dd_definitions.specs.declared.parts.TableParts.{TableParts}
use Rattle.sql_ast.specs.declared.element.Element.{Element}
use Rattle.sql_ast.specs.declared.element.Element.TheVariants.{Column, Key, ForeignKey}
use Rattle.sql_ast.specs.declared.statement.Statement.{Statement}
use Rattle.sql_ast.specs.declared.statement.Statement.TheVariants as is
use Rattle.sql_ast.specs.declared.table.TableBody.TheVariants as bodies
use Rattle.sql_ast.specs.declared.table.TableStatement.TheVariants as tables

-- ---- columns

abbrev pub type_said : ColumnType → TypeWords
type_said (types.Int size unsigned) = words.Int size unsigned
type_said types.Bool = words.Bool
type_said (types.Char most) = words.Char most
type_said (types.VarChar most) = words.VarChar most
type_said types.Date = words.Date
type_said types.DateTime = words.DateTime

-- NOT NULL, or nothing
abbrev pub null_said : Bool → Option Bool
null_said true = None
null_said false = Some false

-- nothing of an auto column; else the default as a string, and NULL for none where the column may be NULL
abbrev pub default_said : Bool → Bool → Option (List ℕ) → Option Literal
default_said true nullable default = None
default_said false nullable (Some text) = Some (literals.Str text)
default_said false true None = Some literals.Null
default_said false false None = None

abbrev pub column_said : ColumnDef → ColumnWords
column_said column = record {
  name = column.name;
  kind = type_said column.kind;
  nullable = null_said column.nullable;
  default = default_said column.auto column.nullable column.default;
  auto = column.auto;
  unique = false;
  primary = false;
}

-- ---- keys

-- the name, which a primary key doesn't say
abbrev pub name_said : IndexClass → List ℕ → Option (List ℕ)
name_said classes.Primary name = None
name_said classes.Unique name = Some name
name_said classes.Plain name = Some name

abbrev pub index_said : IndexDef → KeyWords
index_said index = record { class = index.class; constraint = None; name = name_said index.class index.name; columns = index.columns }

abbrev pub schema_unless : Bool → List ℕ → Option (List ℕ)
schema_unless true schema = None
schema_unless false schema = Some schema

-- the schema where it is another
abbrev pub parent_said : List ℕ → ObjName → ObjRef
parent_said schema parent = record { schema = schema_unless (bytes_eq parent.schema schema) parent.schema; name = parent.name }

-- a foreign key of a table in the schema
abbrev pub foreign_key_said : List ℕ → ForeignKeyDef → FkWords
foreign_key_said schema key = record {
  constraint = Some key.name;
  name = None;
  columns = key.columns;
  parent = parent_said schema key.parent;
  parent_columns = key.parent_columns;
  on_delete = key.on_delete;
  on_update = key.on_update;
}

-- ---- the table

abbrev pub column_element : ColumnDef → Element
column_element column = Column (column_said column)

abbrev pub index_element : IndexDef → Element
index_element index = Key (index_said index)

abbrev pub foreign_key_element : List ℕ → ForeignKeyDef → Element
foreign_key_element schema key = ForeignKey (foreign_key_said schema key)

abbrev pub keys_said : TableParts → List Element
keys_said parts = map index_element parts.indexes ++ map (foreign_key_element parts.name.schema) parts.foreign_keys

-- the columns, then the indexes, then the foreign keys, as they stand
abbrev pub elements_said : TableParts → List Element
elements_said parts = map column_element parts.columns ++ keys_said parts

-- the table by its own name
abbrev pub table_named : TableParts → ObjRef
table_named parts = record { schema = None; name = parts.name.name }

abbrev pub statement_said : TableParts → Statement
statement_said parts = is.Table (tables.Create (record { if_not_exists = false; table = table_named parts; body = bodies.Elements (elements_said parts) }))
