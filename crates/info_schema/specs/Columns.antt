-- The rows of SHOW COLUMNS.
use Rattle.std.specs.Prelude.{ℕ, Bool, true, false, List, [], ◌∷◌, map, Option, Some, None, if◌then◌else◌, not, codes, ◌&&◌}
use Rattle.std.specs.List.{list_any}
use Rattle.std.specs.Str.{bytes_eq}
use Rattle.sql_types.specs.declared.choices.IndexClass.{IndexClass}
use Rattle.sql_types.specs.declared.choices.IndexClass.TheVariants as classes
use Rattle.sql_types.specs.declared.listing.Cell.{Cell}
use Rattle.sql_types.specs.declared.listing.Cell.TheVariants.{Null, Value}
use Rattle.sql_types.specs.declared.listing.Listing.{Listing}
use Rattle.dd_definitions.specs.declared.columns.ColumnDef.{ColumnDef}
use Rattle.dd_definitions.specs.declared.indexes.IndexDef.{IndexDef}
use Rattle.dd_definitions.specs.Indexes.{has_nullable, leads_index}
use Rattle.show_text.specs.Columns.{type_text}

abbrev pub yes_or_no : Bool → List ℕ
yes_or_no true = codes "YES"
yes_or_no false = codes "NO"

-- a default, and NULL where there is none
abbrev pub cell_of : Option (List ℕ) → Cell
cell_of None = Null
cell_of (Some text) = Value text

abbrev pub extra_of : Bool → List ℕ
extra_of true = codes "auto_increment"
extra_of false = []

-- ## The key of a column

abbrev pub is_unique_class : IndexClass → Bool
is_unique_class classes.Primary = false
is_unique_class classes.Unique = true
is_unique_class classes.Plain = false

abbrev pub identifies_by : IndexClass → Bool → Bool
identifies_by classes.Primary nullable = true
identifies_by classes.Unique nullable = not nullable
identifies_by classes.Plain nullable = false

-- the primary key, or a unique index of which no column may be NULL
abbrev pub identifies : List ColumnDef → IndexDef → Bool
identifies columns index = identifies_by index.class (has_nullable columns index)

-- The columns by which a row is known: those of the primary key, which stands first, or where there is none those of the first
-- index, if that is unique and none of its columns may be NULL.
unfoldable pub identifying : List ColumnDef → List IndexDef → List (List ℕ)
identifying columns [] = []
identifying columns (first ∷ others) = if identifies columns first then first.columns else []

abbrev pub is_among : List ℕ → List (List ℕ) → Bool
is_among name names = list_any (bytes_eq name) names

-- the name is the only one
abbrev pub is_alone : List ℕ → List (List ℕ) → Bool
is_alone name [] = false
is_alone name (only ∷ []) = bytes_eq only name
is_alone name (first ∷ second ∷ names) = false

-- the only column of a unique index
unfoldable pub is_unique_alone : List IndexDef → List ℕ → Bool
is_unique_alone indexes name = list_any (λ (index : IndexDef). is_unique_class index.class && is_alone name index.columns) indexes

-- `PRI` where rows are known by the column, else `UNI` for the only column of a unique index, else `MUL` for the first column of an
-- index, else nothing
unfoldable pub key_word : List (List ℕ) → List IndexDef → List ℕ → List ℕ
key_word known_by indexes name =
    if is_among name known_by then codes "PRI" else if is_unique_alone indexes name then codes "UNI" else if leads_index indexes name then codes "MUL" else []

-- ## The rows

abbrev pub column_cells : List (List ℕ) → List IndexDef → ColumnDef → List Cell
column_cells known_by indexes column =
    Value column.name
    ∷ Value (type_text column.kind)
    ∷ Value (yes_or_no column.nullable)
    ∷ Value (key_word known_by indexes column.name)
    ∷ cell_of column.default
    ∷ Value (extra_of column.auto)
    ∷ []

abbrev pub columns_header : List (List ℕ)
columns_header = codes "Field" ∷ codes "Type" ∷ codes "Null" ∷ codes "Key" ∷ codes "Default" ∷ codes "Extra" ∷ []

-- a row a column, in order
abbrev pub columns_rows : List ColumnDef → List IndexDef → Listing
columns_rows columns indexes = record { header = columns_header; rows = map (column_cells (identifying columns indexes) indexes) columns }
