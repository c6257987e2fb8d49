-- The actions on columns.
use Rattle.std.specs.Prelude.{ℕ, ◌+◌, min, Bool, false, ◌&&◌, ◌||◌, ◌==◌, not, List, [], ◌∷◌, ◌++◌, map, filter, length, Option, Some, None, if◌then◌else◌}
use Rattle.std.specs.List.{find, flat_map, insert, list_any}
use Rattle.std.specs.Str.{bytes_eq}
use Rattle.dd_names.specs.declared.object_name.ObjName.{ObjName}
use Rattle.dd_errors.specs.Errors.{ErrorValue}
use Rattle.sql_types.specs.declared.literal.Literal.{Literal}
use Rattle.sql_types.specs.declared.words.ColumnWords.{ColumnWords}
use Rattle.sql_types.specs.declared.words.TypeWords.TheVariants as words
use Rattle.sql_ast.specs.declared.action.Place.{Place}
use Rattle.sql_ast.specs.declared.action.Place.TheVariants.{First, After}
use Rattle.dd_definitions.specs.Indexes.{is_primary}
use Rattle.dd_definitions.specs.declared.columns.ColumnDef.{ColumnDef}
use Rattle.dd_definitions.specs.declared.foreign_keys.ForeignKeyDef.{ForeignKeyDef}
use Rattle.dd_definitions.specs.declared.indexes.IndexDef.{IndexDef}
use Rattle.dd_definitions.specs.declared.parts.TableParts.{TableParts}
use Rattle.dd_catalog.specs.Walks.{Walk, done, ◌>>=◌, every, over, refuse_if, refuse_some}
use Rattle.rules_refusals.specs.Refusals.{cant_drop_field_or_key, cant_remove_all_fields, dup_fieldname, fk_column_cannot_drop, fk_column_cannot_drop_child, primary_cant_have_null}
use Rattle.rules_elements.specs.Columns.{column_of, kept_default}
use Rattle.rules_create.specs.Tables.{has_column, is_null, is_true, own_keys}
use Rattle.rules_alter.specs.Altering.{column_renamed, is_among_names, is_named_so, other_columns, refers_to_column, the_column, the_name, unknown_column, with_parts}
use Rattle.rules_alter.specs.declared.states.Altering.{Altering}
use Rattle.rules_alter.specs.declared.states.Child.{Child}
use Rattle.rules_alter.specs.Arranged.{arranged}
use Rattle.rules_alter.specs.Keys.{key_added}

-- ## Where a column comes to stand

-- the place is behind no other column than one of these: 1054
abbrev pub allowed_place : TableParts → List ColumnDef → Option Place → Walk ErrorValue (Unit {0})
allowed_place parts others None = done tt
allowed_place parts others (Some First) = done tt
allowed_place parts others (Some (After name)) = refuse_if (not (has_column others name)) (unknown_column parts name)

-- how many of the columns stand in front of the one of this name, in any case, from so many on
abbrev pub place_from : ℕ → List ℕ → List ColumnDef → ℕ
place_from place name [] = place
place_from place name (column ∷ columns) = if is_named_so name column then place else place_from (place + 1) name columns

abbrev pub place_at : List ℕ → List ColumnDef → ℕ
place_at name columns = place_from 0 name columns

-- the place that is written, or else this one
abbrev pub place_or : Option Place → ℕ → List ColumnDef → ℕ
place_or None place others = place
place_or (Some First) place others = 0
place_or (Some (After name)) place others = min (place_at name others + 1) (length others)

abbrev pub put_at : Option Place → ℕ → ColumnDef → List ColumnDef → List ColumnDef
put_at written place column others = insert others (place_or written place others) column

-- ## NULL that is written

abbrev pub is_null_in : ColumnWords → Bool
is_null_in words = is_true words.nullable || is_null words.default

abbrev pub with_null : Bool → List ℕ → List (List ℕ) → List (List ℕ)
with_null is_written name nulls = if is_written then nulls ++ name ∷ [] else nulls

-- ## ADD COLUMN

-- A name that is there: 1060. The column by itself. AFTER an unknown column: 1054.
unfoldable pub column_added : Option Place → Altering → ColumnWords → Walk ErrorValue Altering
column_added place state words = do
  _ ← refuse_if (has_column state.parts.columns words.name) (dup_fieldname words.name)
  column ← column_of words
  _ ← allowed_place state.parts state.parts.columns place
  done (record state {
    parts = record state.parts { columns = put_at place (length state.parts.columns) column state.parts.columns };
    nulls = with_null (is_null_in words) words.name state.nulls;
  })

-- the keys that a column says, behind the others
unfoldable pub column_keys_added : Altering → ColumnWords → Walk ErrorValue Altering
column_keys_added state words = do
  parts ← over (key_added state.nulls) state.parts (own_keys words)
  done (with_parts state parts)

abbrev pub arranged_behind : Altering → Altering → Altering
arranged_behind before state = with_parts state (arranged before.parts state.parts)

-- a column, and then its keys
unfoldable pub add_column : ColumnWords → Option Place → Altering → Walk ErrorValue Altering
add_column words place before = do
  added ← column_added place before words
  keyed ← column_keys_added added words
  done (arranged_behind before keyed)

-- several columns in order, and then their keys
unfoldable pub add_columns : List ColumnWords → Altering → Walk ErrorValue Altering
add_columns words before = do
  added ← over (column_added None) before words
  keyed ← over column_keys_added added words
  done (arranged_behind before keyed)

-- ## DROP COLUMN

abbrev pub own_key_refused : List ℕ → Option ForeignKeyDef → Option ErrorValue
own_key_refused name None = None
own_key_refused name (Some key) = Some (fk_column_cannot_drop name key.name)

-- the first foreign key of the table that has the column
abbrev pub refused_by_own : List ℕ → List ℕ → List ForeignKeyDef → Option ErrorValue
refused_by_own name column keys = own_key_refused name (find (λ (key : ForeignKeyDef). is_among_names key.columns column) keys)

abbrev pub referring_key_refused : List ℕ → TableParts → Option ForeignKeyDef → Option ErrorValue
referring_key_refused name child None = None
referring_key_refused name child (Some key) = Some (fk_column_cannot_drop_child name key.name child.name.name)

-- the first foreign key of a child, or of the table itself, that refers to the column
abbrev pub refused_by : List ℕ → ObjName → List ℕ → TableParts → Option ErrorValue
refused_by name table column child = referring_key_refused name child (find (refers_to_column table column) child.foreign_keys)

abbrev pub child_allows : List ℕ → ObjName → List ℕ → Child → Walk ErrorValue (Unit {0})
child_allows name table column child = refuse_some (refused_by name table column child.parts)

-- an index without columns goes
abbrev pub index_or_none : IndexDef → List (List ℕ) → List IndexDef
index_or_none index [] = []
index_or_none index (name ∷ names) = record index { columns = name ∷ names } ∷ []

abbrev pub index_without : List ℕ → IndexDef → List IndexDef
index_without column index = index_or_none index (filter (λ name. not (bytes_eq name column)) index.columns)

abbrev pub without_column : List ℕ → TableParts → TableParts
without_column column parts = record parts {
  columns = other_columns column parts.columns;
  indexes = flat_map (index_without column) parts.indexes;
}

-- The only column: 1090. In a foreign key of the table: 1828. In the parent columns of a child's foreign key, or of one that refers
-- to the table itself: 1829.
unfoldable pub allowed_drop : List ℕ → List ℕ → Altering → Walk ErrorValue (Unit {0})
allowed_drop name column state = do
  _ ← refuse_if (length state.parts.columns == 1) cant_remove_all_fields
  _ ← refuse_some (refused_by_own name column state.parts.foreign_keys)
  _ ← every (child_allows name state.parts.name column) state.children
  refuse_some (refused_by name state.parts.name column state.parts)

abbrev pub without_null : List ℕ → List (List ℕ) → List (List ℕ)
without_null column nulls = filter (λ other. not (bytes_eq other column)) nulls

abbrev pub dropped : List ℕ → Altering → Altering
dropped column state = record state { parts = arranged state.parts (without_column column state.parts); nulls = without_null column state.nulls }

-- Unknown: 1091. The column leaves its indexes.
unfoldable pub drop_column : List ℕ → Altering → Walk ErrorValue Altering
drop_column name state = do
  column ← the_name (cant_drop_field_or_key name) state.parts name
  _ ← allowed_drop name column state
  done (dropped column state)

-- ## CHANGE COLUMN and MODIFY COLUMN

abbrev pub is_in_primary : List IndexDef → List ℕ → Bool
is_in_primary indexes name = list_any (λ (index : IndexDef). is_primary index && is_among_names index.columns name) indexes

-- a column of the primary key is NOT NULL
abbrev pub null_unless : Bool → ColumnDef → ColumnDef
null_unless is_key column = if is_key then record column { nullable = false } else column

-- the definition in the place of the column of its name, or at the place that is written
abbrev pub with_definition : Option Place → ColumnDef → List ColumnDef → List ColumnDef
with_definition place column columns = put_at place (place_at column.name columns) column (other_columns column.name columns)

-- the column has the new name everywhere, and this definition
abbrev pub column_changed : List ℕ → Option Place → ColumnDef → Bool → Altering → Altering
column_changed from place column is_null state =
    let renamed : Altering = column_renamed from column.name state in
    record renamed {
      parts = record renamed.parts { columns = with_definition place column renamed.parts.columns };
      nulls = with_null is_null column.name renamed.nulls;
    }

-- The new name at another column: 1060. The column by itself. AFTER an unknown column or itself: 1054.
unfoldable pub allowed_change : List ℕ → ColumnWords → Option Place → TableParts → Walk ErrorValue ColumnDef
allowed_change old words place parts = do
  _ ← refuse_if (has_column (other_columns old parts.columns) words.name) (dup_fieldname words.name)
  made ← column_of words
  _ ← allowed_place parts (other_columns old parts.columns) place
  done made

-- the column of this spelling with the definition that was made; a column of the primary key stays NOT NULL
unfoldable pub redefined : List ℕ → ColumnWords → Option Place → ColumnDef → Altering → Altering
redefined old words place made before = column_changed old place (null_unless (is_in_primary before.parts.indexes old) made) (is_null_in words) before

abbrev pub is_nulled_key : List ℕ → ColumnWords → Altering → Bool
is_nulled_key old words before = is_in_primary before.parts.indexes old && is_null_in words

-- the column with its new definition, and then its keys
unfoldable pub remade : List ℕ → ColumnWords → Option Place → Altering → Walk ErrorValue Altering
remade old words place before = do
  made ← allowed_change old words place before.parts
  column_keys_added (redefined old words place made before) words

-- NULL or DEFAULT NULL for a column of the primary key: 1171
unfoldable pub never_nulled : List ℕ → ColumnWords → Option Place → Altering → Walk ErrorValue Altering
never_nulled old words place before = do
  keyed ← remade old words place before
  _ ← refuse_if (is_nulled_key old words before) primary_cant_have_null
  done keyed

unfoldable pub changed : List ℕ → ColumnWords → Option Place → Altering → Walk ErrorValue Altering
changed old words place before = do
  keyed ← never_nulled old words place before
  done (arranged_behind before keyed)

-- Unknown: 1054. Then the change.
unfoldable pub change_column : List ℕ → ColumnWords → Option Place → Altering → Walk ErrorValue Altering
change_column name words place before = do
  old ← the_name (unknown_column before.parts name) before.parts name
  changed old words place before

-- ## RENAME COLUMN

-- Unknown: 1054. The new name at another column: 1060.
unfoldable pub rename_column : List ℕ → List ℕ → Altering → Walk ErrorValue Altering
rename_column from to state = do
  old ← the_name (unknown_column state.parts from) state.parts from
  _ ← refuse_if (has_column (other_columns old state.parts.columns) to) (dup_fieldname to)
  done (column_renamed old to state)

-- ## Defaults

abbrev pub column_with_default : List ℕ → Option (List ℕ) → ColumnDef → ColumnDef
column_with_default name default column = if bytes_eq column.name name then record column { default = default } else column

abbrev pub with_default : List ℕ → Option (List ℕ) → TableParts → TableParts
with_default name default parts = record parts { columns = map (column_with_default name default) parts.columns }

-- the column as a statement would write it with this default, by the name that this one writes
abbrev pub words_of : List ℕ → Literal → ColumnDef → ColumnWords
words_of name value column = record { name = name; kind = words.Bool; nullable = Some column.nullable; default = Some value; auto = column.auto; unique = false; primary = false }

-- how the table spells the column, and the default as for a new column; unknown: 1054, or 1067
unfoldable pub default_of : List ℕ → Literal → TableParts → Walk ErrorValue (List ℕ × Option (List ℕ))
default_of name value parts = do
  column ← the_column (unknown_column parts name) parts name
  default ← kept_default (words_of name value column) column.kind (Some value)
  done (column.name, default)

abbrev pub default_set : Bool → List ℕ × Option (List ℕ) → Altering → Altering
default_set is_null found state = record state { parts = with_default found.0 found.1 state.parts; nulls = with_null is_null found.0 state.nulls }

unfoldable pub set_default : List ℕ → Literal → Altering → Walk ErrorValue Altering
set_default name value state = do
  found ← default_of name value state.parts
  done (default_set (is_null (Some value)) found state)

-- unknown: 1054
unfoldable pub drop_default : List ℕ → Altering → Walk ErrorValue Altering
drop_default name state = do
  column ← the_name (unknown_column state.parts name) state.parts name
  done (with_parts state (with_default column None state.parts))
