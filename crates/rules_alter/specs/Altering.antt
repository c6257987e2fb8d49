-- A table and its children, as the actions so far leave them.
use Rattle.std.specs.Prelude.{ℕ, Bool, true, ◌&&◌, ◌||◌, not, List, map, filter, Option, Some, None, if◌then◌else◌}
use Rattle.std.specs.List.{list_any}
use Rattle.std.specs.Str.{bytes_eq}
use Rattle.dd_names.specs.Names.{same}
use Rattle.dd_names.specs.declared.object_name.ObjName.{ObjName}
use Rattle.dd_errors.specs.Errors.{ErrorValue}
use Rattle.dd_definitions.specs.declared.columns.ColumnDef.{ColumnDef}
use Rattle.dd_definitions.specs.declared.foreign_keys.ForeignKeyDef.{ForeignKeyDef}
use Rattle.dd_definitions.specs.declared.indexes.IndexDef.{IndexDef}
use Rattle.dd_definitions.specs.declared.parts.TableParts.{TableParts}
use Rattle.dd_catalog.specs.Catalog.{is_same_object}
use Rattle.dd_catalog.specs.Kinds.{column_named}
use Rattle.dd_catalog.specs.Walks.{Walk, done, refuse}
use Rattle.rules_refusals.specs.Refusals.{bad_field_error}
use Rattle.rules_alter.specs.declared.states.Altering.{Altering}
use Rattle.rules_alter.specs.declared.states.Child.{Child}

abbrev pub with_parts : Altering → TableParts → Altering
with_parts state parts = record state { parts = parts }

-- ## Columns by their names

abbrev pub is_named_so : List ℕ → ColumnDef → Bool
is_named_so name column = same column.name name

-- the columns but the one of this name, in any case
abbrev pub other_columns : List ℕ → List ColumnDef → List ColumnDef
other_columns name columns = filter (λ column. not (is_named_so name column)) columns

abbrev pub column_or : ErrorValue → Option ColumnDef → Walk ErrorValue ColumnDef
column_or error None = refuse error
column_or error (Some column) = done column

-- the column of this name, in any case, or the refusal
abbrev pub the_column : ErrorValue → TableParts → List ℕ → Walk ErrorValue ColumnDef
the_column error parts name = column_or error (column_named parts.columns name)

abbrev pub name_or : ErrorValue → Option ColumnDef → Walk ErrorValue (List ℕ)
name_or error None = refuse error
name_or error (Some column) = done column.name

-- how the table spells the column of this name, or the refusal
abbrev pub the_name : ErrorValue → TableParts → List ℕ → Walk ErrorValue (List ℕ)
the_name error parts name = name_or error (column_named parts.columns name)

-- 1054 in the table
abbrev pub unknown_column : TableParts → List ℕ → ErrorValue
unknown_column parts name = bad_field_error name parts.name.name

-- the column is one of the primary key
abbrev pub is_among_names : List (List ℕ) → List ℕ → Bool
is_among_names names name = list_any (bytes_eq name) names

-- ## Foreign keys that refer to the table

-- the foreign key refers to this column of the table
abbrev pub refers_to_column : ObjName → List ℕ → ForeignKeyDef → Bool
refers_to_column table column key = is_same_object key.parent table && is_among_names key.parent_columns column

-- it holds of a child, or of the table itself
abbrev pub any_referring : (TableParts → Bool) → Altering → Bool
any_referring holds state = list_any (λ (child : Child). holds child.parts) state.children || holds state.parts

-- ## A column by another name

abbrev pub renamed_name : List ℕ → List ℕ → List ℕ → List ℕ
renamed_name from to name = if bytes_eq name from then to else name

abbrev pub renamed_column : List ℕ → List ℕ → ColumnDef → ColumnDef
renamed_column from to column = record column { name = renamed_name from to column.name }

abbrev pub renamed_index : List ℕ → List ℕ → IndexDef → IndexDef
renamed_index from to index = record index { columns = map (renamed_name from to) index.columns }

-- the parent columns, where the key refers to the table
abbrev pub with_parent_renamed : ObjName → List ℕ → List ℕ → ForeignKeyDef → ForeignKeyDef
with_parent_renamed table from to key = if is_same_object key.parent table then record key { parent_columns = map (renamed_name from to) key.parent_columns } else key

-- a foreign key of the table, which may refer to the table itself
abbrev pub own_key_renamed : ObjName → List ℕ → List ℕ → ForeignKeyDef → ForeignKeyDef
own_key_renamed table from to key = with_parent_renamed table from to (record key { columns = map (renamed_name from to) key.columns })

abbrev pub with_column_renamed : List ℕ → List ℕ → TableParts → TableParts
with_column_renamed from to parts = record parts {
  columns = map (renamed_column from to) parts.columns;
  indexes = map (renamed_index from to) parts.indexes;
  foreign_keys = map (own_key_renamed parts.name from to) parts.foreign_keys;
}

abbrev pub is_child_touched : ObjName → List ℕ → Child → Bool
is_child_touched table from child = list_any (refers_to_column table from) child.parts.foreign_keys

abbrev pub with_keys_renamed : ObjName → List ℕ → List ℕ → TableParts → TableParts
with_keys_renamed table from to child = record child { foreign_keys = map (with_parent_renamed table from to) child.foreign_keys }

-- a child whose foreign key refers to the column
abbrev pub child_renamed : ObjName → List ℕ → List ℕ → Child → Child
child_renamed table from to child =
    if is_child_touched table from child then record child { parts = with_keys_renamed table from to child.parts; is_changed = true } else child

abbrev pub all_renamed : List ℕ → List ℕ → Altering → Altering
all_renamed from to state = record state {
  parts = with_column_renamed from to state.parts;
  children = map (child_renamed state.parts.name from to) state.children;
  nulls = map (renamed_name from to) state.nulls;
}

-- a column that is spelled so has the other name in the table's indexes and foreign keys, and in the foreign keys that refer to it
unfoldable pub column_renamed : List ℕ → List ℕ → Altering → Altering
column_renamed from to state = if bytes_eq from to then state else all_renamed from to state
