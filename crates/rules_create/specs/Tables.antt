-- CREATE TABLE.
use Rattle.std.specs.Prelude.{ℕ, ◌+◌, ◌==◌, ◌^◌, Bool, true, false, ◌&&◌, ◌||◌, not, nat_le, nat_lt, max, List, [], ◌∷◌, ◌++◌, map, filter, length, Option, Some, None, if◌then◌else◌, codes}
use Rattle.std.specs.List.{list_any, list_all, count_by, starts_with, flat_map}
use Rattle.std.specs.Fmt.{decimal}
use Rattle.std.specs.Str.{bytes_eq}
use Rattle.std.specs.Char.{is_ascii_digit}
use Rattle.std.specs.Ordering.{is_le}
use Rattle.dd_names.specs.Names.{same, fold, name_cmp}
use Rattle.dd_names.specs.declared.object_name.ObjName.{ObjName}
use Rattle.dd_names.specs.declared.object_name.ObjectKey.TheVariants as keys
use Rattle.dd_errors.specs.Errors.{ErrorValue}
use Rattle.sql_types.specs.declared.choices.IndexClass.{IndexClass}
use Rattle.sql_types.specs.declared.choices.IndexClass.TheVariants as classes
use Rattle.sql_types.specs.declared.literal.Literal.{Literal}
use Rattle.sql_types.specs.declared.literal.Literal.TheVariants as literals
use Rattle.sql_types.specs.declared.words.ObjRef.{ObjRef}
use Rattle.sql_types.specs.declared.words.ColumnWords.{ColumnWords}
use Rattle.sql_types.specs.declared.words.KeyWords.{KeyWords}
use Rattle.sql_types.specs.declared.words.FkWords.{FkWords}
use Rattle.sql_ast.specs.declared.element.Element.{Element}
use Rattle.sql_ast.specs.declared.element.Element.TheVariants.{Column, Key, ForeignKey}
use Rattle.sql_ast.specs.declared.session.SessionState.{SessionState}
use Rattle.dd_definitions.specs.Defaults.{value_behind, begins_with_zero}
use Rattle.dd_definitions.specs.Indexes.{is_primary, is_secondary, rank, leads_index, are_few_autos}
use Rattle.dd_definitions.specs.ForeignKeys.{has_index_on}
use Rattle.dd_definitions.specs.declared.columns.ColumnDef.{ColumnDef}
use Rattle.dd_definitions.specs.declared.indexes.IndexDef.{IndexDef}
use Rattle.dd_definitions.specs.declared.foreign_keys.ForeignKeyDef.{ForeignKeyDef}
use Rattle.dd_definitions.specs.declared.parts.TableParts.{TableParts}
use Rattle.dd_catalog.specs.Walks.{Walk, done, refuse, ◌>>=◌, look_at, refuse_if, over}
use Rattle.rules_refusals.specs.Refusals.{dup_fieldname, too_many_key_parts, key_column_does_not_exist}
use Rattle.rules_elements.specs.Columns.{column_of}
use Rattle.rules_elements.specs.Keys.{key_columns, key_of, first_given, made_name}
use Rattle.rules_elements.specs.ForeignKeys.{foreign_key_of}
use Rattle.rules_outcome.specs.Choices.{FreshTable, change, Choice, Changes}
use Rattle.rules_refusals.specs.Refusals as refusals
use Rattle.rules_named.specs.Named.{object_in, is_nothing, one_named, unless}

-- ## What the elements are

abbrev pub column_in : Element → List ColumnWords
column_in (Column words) = words ∷ []
column_in element = []

abbrev pub key_in : Element → List KeyWords
key_in (Key words) = words ∷ []
key_in element = []

abbrev pub foreign_key_in : Element → List FkWords
foreign_key_in (ForeignKey words) = words ∷ []
foreign_key_in element = []

-- a key of one column that its column says
abbrev pub own_key : IndexClass → List ℕ → KeyWords
own_key class column = record { class = class; constraint = None; name = None; columns = column ∷ [] }

-- the keys that a column says, the primary first
abbrev pub own_keys : ColumnWords → List KeyWords
own_keys words =
    (if words.primary then own_key classes.Primary words.name ∷ [] else []) ++ (if words.unique then own_key classes.Unique words.name ∷ [] else [])

-- the keys that columns say, in the order of the columns, and then the others in order
abbrev pub all_keys : List Element → List KeyWords
all_keys elements = flat_map own_keys (flat_map column_in elements) ++ flat_map key_in elements

-- ## Columns

abbrev pub has_column : List ColumnDef → List ℕ → Bool
has_column columns name = list_any (λ (column : ColumnDef). same column.name name) columns

-- a name that is there: 1060; then the column by itself
unfoldable pub one_column : List ColumnDef → ColumnWords → Walk ErrorValue (List ColumnDef)
one_column before words = do
  _ ← refuse_if (has_column before words.name) (dup_fieldname words.name)
  column ← column_of words
  done (before ++ column ∷ [])

-- the columns in order; none: 1113; more than 1017: 1117
unfoldable pub all_columns : List ColumnWords → Walk ErrorValue (List ColumnDef)
all_columns words = do
  columns ← over one_column [] words
  _ ← refuse_if (length columns == 0) refusals.table_must_have_columns
  _ ← refuse_if (nat_lt 1017 (length columns)) refusals.too_many_fields
  done columns

-- ## Keys

abbrev pub is_null : Option Literal → Bool
is_null (Some literals.Null) = true
is_null default = false

abbrev pub is_true : Option Bool → Bool
is_true (Some b) = b
is_true None = false

-- NULL or DEFAULT NULL is written for the column
abbrev pub is_null_written : List ColumnWords → List ℕ → Bool
is_null_written written name = list_any (λ (words : ColumnWords). same words.name name && (is_true words.nullable || is_null words.default)) written

abbrev pub never_null : List (List ℕ) → ColumnDef → ColumnDef
never_null names column = if list_any (bytes_eq column.name) names then record column { nullable = false } else column

-- the index behind the others; the columns of a primary key are NOT NULL
unfoldable pub with_index : TableParts → IndexDef → TableParts
with_index parts index = record parts {
  indexes = parts.indexes ++ index ∷ [];
  columns = if is_primary index then map (never_null index.columns) parts.columns else parts.columns;
}

-- a key without columns, which no text writes, is refused as one with an unknown column
abbrev pub some_columns : List (List ℕ) → Walk ErrorValue (Unit {0})
some_columns names = refuse_if (length names == 0) (key_column_does_not_exist [])

-- a key; for a primary key, a column for which NULL or DEFAULT NULL is written: 1171
unfoldable pub one_key : List ColumnWords → TableParts → KeyWords → Walk ErrorValue TableParts
one_key written parts words = do
  _ ← some_columns words.columns
  index ← key_of parts words
  _ ← refuse_if (is_primary index && list_any (is_null_written written) index.columns) refusals.primary_cant_have_null
  done (with_index parts index)

-- ## Foreign keys

-- what stands behind the front, where the text begins with it
abbrev pub behind : List ℕ → List ℕ → Option (List ℕ)
behind [] text = Some text
behind (c ∷ front) [] = None
behind (c ∷ front) (d ∷ text) = if c == d then behind front text else None

-- `<table>_ibfk_`
abbrev pub constraint_front : List ℕ → List ℕ
constraint_front table = table ++ codes "_ibfk_"

-- one to 38 decimal digits without a zero in front, which a number of 128 bits holds
abbrev pub is_number : List ℕ → Bool
is_number text = nat_le 1 (length text) && nat_le (length text) 38 && list_all is_ascii_digit text && not (begins_with_zero text)

-- the number behind the front, and 0 where there is none
abbrev pub number_of : Option (List ℕ) → ℕ
number_of None = 0
number_of (Some text) = if is_number text then value_behind 0 text else 0

-- the greatest number that the names have behind the front
abbrev pub greatest_number : List ℕ → List ForeignKeyDef → ℕ
greatest_number front [] = 0
greatest_number front (key ∷ keys) = max (number_of (behind front key.name)) (greatest_number front keys)

-- the name that is given, or `<table>_ibfk_<n>`, where n is one more than the greatest; above 64 characters: 1059
unfoldable pub constraint_name : TableParts → Option (List ℕ) → Walk ErrorValue (List ℕ)
constraint_name parts (Some name) = done name
constraint_name parts None =
    made_name (constraint_front parts.name.name ++ decimal (greatest_number (constraint_front parts.name.name) parts.foreign_keys + 1))

-- a plain key on the columns of a foreign key
abbrev pub key_for : FkWords → List (List ℕ) → KeyWords
key_for words columns = record { class = classes.Plain; constraint = None; name = first_given words.constraint words.name; columns = columns }

-- where no index of the table begins with the columns, a plain one is made
unfoldable pub with_key_index : TableParts → FkWords → List (List ℕ) → Walk ErrorValue TableParts
with_key_index parts words columns =
    if has_index_on parts.indexes columns then done parts else (key_of parts (key_for words columns) >>= λ index. done (with_index parts index))

-- how 1239 names a foreign key
abbrev pub name_in_text : Option (List ℕ) → List ℕ
name_in_text None = codes "foreign key without name"
name_in_text (Some name) = name

abbrev pub schema_or : List ℕ → Option (List ℕ) → List ℕ
schema_or own None = own
schema_or own (Some schema) = schema

-- a parent without schema is in the child's
abbrev pub parent_named : ObjName → ObjRef → ObjName
parent_named table ref = object_in (schema_or table.schema ref.schema) ref.name

-- in front of the first that comes behind it by the byte order of the folded names
abbrev pub put_in_order : ForeignKeyDef → List ForeignKeyDef → List ForeignKeyDef
put_in_order key [] = key ∷ []
put_in_order key (next ∷ keys) = if is_le (name_cmp (fold next.name) (fold key.name)) then next ∷ put_in_order key keys else key ∷ next ∷ keys

abbrev pub key_named : FkWords → ObjName → List ℕ → List (List ℕ) → ForeignKeyDef
key_named words table name columns = record {
  name = name;
  columns = columns;
  parent = parent_named table words.parent;
  parent_columns = words.parent_columns;
  on_delete = words.on_delete;
  on_update = words.on_update;
}

-- A foreign key. Other numbers of columns: 1239. More than 16: 1070. Column by column, one that isn't in the table, 1072, or
-- stands twice, 1060. Then its name, its index, its parent and its columns.
unfoldable pub one_foreign_key : TableParts → FkWords → Walk ErrorValue TableParts
one_foreign_key parts words = do
  _ ← refuse_if (not (length words.columns == length words.parent_columns)) (refusals.wrong_fk_def (name_in_text words.constraint))
  _ ← refuse_if (nat_lt 16 (length words.columns)) too_many_key_parts
  _ ← some_columns words.columns
  columns ← key_columns parts.columns words.columns
  name ← constraint_name parts words.constraint
  indexed ← with_key_index parts words columns
  key ← foreign_key_of indexed words.columns (key_named words parts.name name columns)
  done (record indexed { foreign_keys = put_in_order key indexed.foreign_keys })

-- ## The whole table

abbrev pub is_ranked : List ColumnDef → ℕ → IndexDef → Bool
is_ranked columns n index = rank columns index == n

-- the primary key, the unique indexes without a column that may be NULL, the other unique ones, the plain ones; those of one
-- class in order of making
unfoldable pub by_class : List ColumnDef → List IndexDef → List IndexDef
by_class columns indexes =
    filter (is_ranked columns 0) indexes ++ filter (is_ranked columns 1) indexes ++ filter (is_ranked columns 2) indexes ++ filter (is_ranked columns 3) indexes

abbrev pub is_auto_led : List IndexDef → ColumnDef → Bool
is_auto_led indexes column = not column.auto || leads_index indexes column.name

-- there is at most one auto column, and it stands first in an index
unfoldable pub are_autos_led : TableParts → Bool
are_autos_led parts = are_few_autos parts.columns && list_all (is_auto_led parts.indexes) parts.columns

-- more than 64 secondary indexes: 1069; an auto column that isn't the only one or leads no index: 1075; more than 1,024 foreign
-- keys: 9001
unfoldable pub within_limits : TableParts → Walk ErrorValue (Unit {0})
within_limits parts = do
  _ ← refuse_if (nat_lt 64 (count_by is_secondary parts.indexes)) refusals.too_many_keys
  _ ← refuse_if (not (are_autos_led parts)) refusals.wrong_auto_key
  refuse_if (nat_lt 1024 (length parts.foreign_keys)) (refusals.beyond_limit "1024")

abbrev pub of_columns : ObjName → List ColumnDef → TableParts
of_columns table columns = record { name = table; columns = columns; indexes = []; foreign_keys = [] }

-- what the elements make: columns, keys, and then foreign keys
unfoldable pub table_of : ObjName → List Element → Walk ErrorValue TableParts
table_of table elements = do
  columns ← all_columns (flat_map column_in elements)
  keyed ← over (one_key (flat_map column_in elements)) (of_columns table columns) (all_keys elements)
  parts ← over one_foreign_key keyed (flat_map foreign_key_in elements)
  _ ← within_limits parts
  done (record parts { indexes = by_class parts.columns parts.indexes })

abbrev pub table_made : SessionState → ObjName → TableParts → Choice
table_made session table parts = Changes (change (keys.Object table) (FreshTable parts) ∷ []) session

-- CREATE TABLE. Present: done without change with IF NOT EXISTS, else 1050. Then what the elements make.
unfoldable pub create_table : SessionState → Bool → ObjRef → List Element → Walk ErrorValue Choice
create_table session if_not_exists ref elements = do
  table ← one_named session.current ref
  seen ← look_at (keys.Object table)
  if is_nothing seen then (table_of table elements >>= λ parts. done (table_made session table parts)) else unless if_not_exists (refusals.table_exists table.name)
