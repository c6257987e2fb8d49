-- The rows that one object has in each table of INFORMATION_SCHEMA.
use Rattle.std.specs.Prelude.{ℕ, ◌+◌, Bool, true, false, List, [], ◌∷◌, map, Option, Some, None, if◌then◌else◌, codes, flat_map, slice_get}
use Rattle.std.specs.Fmt.{decimal}
use Rattle.dd_names.specs.Names.{same}
use Rattle.dd_names.specs.declared.object_name.ObjName.{ObjName}
use Rattle.sql_types.specs.declared.choices.IndexClass.{IndexClass}
use Rattle.sql_types.specs.declared.choices.IndexClass.TheVariants as classes
use Rattle.sql_types.specs.declared.listing.Cell.{Cell}
use Rattle.sql_types.specs.declared.listing.Cell.TheVariants.{Null, Value}
use Rattle.dd_definitions.specs.declared.columns.ColumnDef.{ColumnDef}
use Rattle.dd_definitions.specs.declared.indexes.IndexDef.{IndexDef}
use Rattle.dd_definitions.specs.declared.foreign_keys.ForeignKeyDef.{ForeignKeyDef}
use Rattle.dd_definitions.specs.declared.parts.TableParts.{TableParts}
use Rattle.dd_definitions.specs.declared.view_parts.ViewParts.{ViewParts}
use Rattle.dd_catalog.specs.Sights.{Sight, TableThere, ViewThere}
use Rattle.show_text.specs.Columns.{type_text}
use Rattle.show_text.specs.Keys.{rule_name}
use Rattle.show_text.specs.Views.{query_text}
use Rattle.info_schema.specs.declared.tables.InfoTable.{InfoTable}
use Rattle.info_schema.specs.declared.tables.InfoTable.TheVariants as tables
use Rattle.info_schema.specs.Columns.{yes_or_no, cell_of, extra_of, identifying, key_word}

-- ## The tables

-- a table of INFORMATION_SCHEMA by its name in any case
unfoldable pub table_named : List ℕ → Option InfoTable
table_named name =
    if same name (codes "SCHEMATA")
    then Some tables.Schemata
    else if same name (codes "TABLES")
    then Some tables.Tables
    else if same name (codes "COLUMNS")
    then Some tables.Columns
    else if same name (codes "STATISTICS")
    then Some tables.Statistics
    else if same name (codes "KEY_COLUMN_USAGE")
    then Some tables.KeyColumnUsage
    else if same name (codes "REFERENTIAL_CONSTRAINTS")
    then Some tables.ReferentialConstraints
    else if same name (codes "VIEWS")
    then Some tables.Views
    else None

abbrev pub header_of : InfoTable → List (List ℕ)
header_of tables.Schemata = codes "SCHEMA_NAME" ∷ codes "DEFAULT_CHARACTER_SET_NAME" ∷ codes "DEFAULT_COLLATION_NAME" ∷ []
header_of tables.Tables = codes "TABLE_SCHEMA" ∷ codes "TABLE_NAME" ∷ codes "TABLE_TYPE" ∷ codes "ENGINE" ∷ []
header_of tables.Columns =
    codes "TABLE_SCHEMA"
    ∷ codes "TABLE_NAME"
    ∷ codes "COLUMN_NAME"
    ∷ codes "ORDINAL_POSITION"
    ∷ codes "COLUMN_DEFAULT"
    ∷ codes "IS_NULLABLE"
    ∷ codes "COLUMN_TYPE"
    ∷ codes "COLUMN_KEY"
    ∷ codes "EXTRA"
    ∷ []
header_of tables.Statistics =
    codes "TABLE_SCHEMA" ∷ codes "TABLE_NAME" ∷ codes "NON_UNIQUE" ∷ codes "INDEX_NAME" ∷ codes "SEQ_IN_INDEX" ∷ codes "COLUMN_NAME" ∷ []
header_of tables.KeyColumnUsage =
    codes "CONSTRAINT_SCHEMA"
    ∷ codes "CONSTRAINT_NAME"
    ∷ codes "TABLE_NAME"
    ∷ codes "COLUMN_NAME"
    ∷ codes "ORDINAL_POSITION"
    ∷ codes "REFERENCED_TABLE_SCHEMA"
    ∷ codes "REFERENCED_TABLE_NAME"
    ∷ codes "REFERENCED_COLUMN_NAME"
    ∷ []
header_of tables.ReferentialConstraints =
    codes "CONSTRAINT_SCHEMA"
    ∷ codes "CONSTRAINT_NAME"
    ∷ codes "UPDATE_RULE"
    ∷ codes "DELETE_RULE"
    ∷ codes "TABLE_NAME"
    ∷ codes "REFERENCED_TABLE_NAME"
    ∷ []
header_of tables.Views = codes "TABLE_SCHEMA" ∷ codes "TABLE_NAME" ∷ codes "VIEW_DEFINITION" ∷ []

-- ## Rows

-- a row for each item, by its place from this one on
abbrev pub rows_from : {A : Type 0} → (ℕ → A → List Cell) → ℕ → List A → List (List Cell)
rows_from row place [] = []
rows_from row place (x ∷ xs) = row place x ∷ rows_from row (place + 1) xs

abbrev pub number : ℕ → Cell
number n = Value (decimal n)

abbrev pub schemata_row : List ℕ → List Cell
schemata_row name = Value name ∷ Value (codes "utf8mb4") ∷ Value (codes "utf8mb4_0900_ai_ci") ∷ []

abbrev pub tables_row : ObjName → List ℕ → Cell → List Cell
tables_row name kind engine = Value name.schema ∷ Value name.name ∷ Value kind ∷ engine ∷ []

abbrev pub columns_row : TableParts → List (List ℕ) → ℕ → ColumnDef → List Cell
columns_row parts known_by place column =
    Value parts.name.schema
    ∷ Value parts.name.name
    ∷ Value column.name
    ∷ number (place + 1)
    ∷ cell_of column.default
    ∷ Value (yes_or_no column.nullable)
    ∷ Value (type_text column.kind)
    ∷ Value (key_word known_by parts.indexes column.name)
    ∷ Value (extra_of column.auto)
    ∷ []

-- whether rows may repeat in the index
abbrev pub non_unique : IndexClass → List ℕ
non_unique classes.Primary = codes "0"
non_unique classes.Unique = codes "0"
non_unique classes.Plain = codes "1"

abbrev pub statistics_row : ObjName → IndexDef → ℕ → List ℕ → List Cell
statistics_row name index place column =
    Value name.schema ∷ Value name.name ∷ Value (non_unique index.class) ∷ Value index.name ∷ number (place + 1) ∷ Value column ∷ []

abbrev pub usage_row : ObjName → ForeignKeyDef → ℕ → List ℕ → List Cell
usage_row name key place column =
    Value name.schema
    ∷ Value key.name
    ∷ Value name.name
    ∷ Value column
    ∷ number (place + 1)
    ∷ Value key.parent.schema
    ∷ Value key.parent.name
    ∷ cell_of (slice_get key.parent_columns place)
    ∷ []

abbrev pub constraint_row : ObjName → ForeignKeyDef → List Cell
constraint_row name key =
    Value name.schema ∷ Value key.name ∷ Value (rule_name key.on_update) ∷ Value (rule_name key.on_delete) ∷ Value name.name ∷ Value key.parent.name ∷ []

abbrev pub views_row : ViewParts → List Cell
views_row parts = Value parts.name.schema ∷ Value parts.name.name ∷ Value (query_text parts) ∷ []

-- ## The rows of an object

unfoldable pub base_table_rows : InfoTable → TableParts → List (List Cell)
base_table_rows tables.Schemata parts = []
base_table_rows tables.Tables parts = tables_row parts.name (codes "BASE TABLE") (Value (codes "InnoDB")) ∷ []
base_table_rows tables.Columns parts = rows_from (columns_row parts (identifying parts.columns parts.indexes)) 0 parts.columns
base_table_rows tables.Statistics parts = flat_map (λ (index : IndexDef). rows_from (statistics_row parts.name index) 0 index.columns) parts.indexes
base_table_rows tables.KeyColumnUsage parts = flat_map (λ (key : ForeignKeyDef). rows_from (usage_row parts.name key) 0 key.columns) parts.foreign_keys
base_table_rows tables.ReferentialConstraints parts = map (constraint_row parts.name) parts.foreign_keys
base_table_rows tables.Views parts = []

unfoldable pub view_rows : InfoTable → ViewParts → List (List Cell)
view_rows tables.Schemata parts = []
view_rows tables.Tables parts = tables_row parts.name (codes "VIEW") Null ∷ []
view_rows tables.Columns parts = []
view_rows tables.Statistics parts = []
view_rows tables.KeyColumnUsage parts = []
view_rows tables.ReferentialConstraints parts = []
view_rows tables.Views parts = views_row parts ∷ []

-- of what is seen at the key of an object
abbrev pub rows_seen : InfoTable → Sight → List (List Cell)
rows_seen info (TableThere space parts) = base_table_rows info parts
rows_seen info (ViewThere parts) = view_rows info parts
rows_seen info seen = []
