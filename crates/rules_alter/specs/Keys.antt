-- The actions on indexes.
use Rattle.std.specs.Prelude.{ℕ, Bool, true, false, ◌&&◌, ◌||◌, not, List, map, filter, Option, Some, None, if◌then◌else◌}
use Rattle.std.specs.List.{list_any, find}
use Rattle.dd_names.specs.Names.{same}
use Rattle.dd_names.specs.declared.object_name.ObjName.{ObjName}
use Rattle.dd_errors.specs.Errors.{ErrorValue}
use Rattle.sql_types.specs.declared.words.ColumnWords.{ColumnWords}
use Rattle.sql_types.specs.declared.words.KeyWords.{KeyWords}
use Rattle.sql_types.specs.declared.words.TypeWords.TheVariants as words
use Rattle.dd_definitions.specs.Indexes.{primary_name}
use Rattle.dd_definitions.specs.ForeignKeys.{has_index_on}
use Rattle.dd_definitions.specs.declared.foreign_keys.ForeignKeyDef.{ForeignKeyDef}
use Rattle.dd_definitions.specs.declared.indexes.IndexDef.{IndexDef}
use Rattle.dd_definitions.specs.declared.parts.TableParts.{TableParts}
use Rattle.dd_catalog.specs.Catalog.{is_same_object}
use Rattle.dd_catalog.specs.Walks.{Walk, done, refuse, ◌>>=◌, refuse_if}
use Rattle.rules_refusals.specs.Refusals.{cant_drop_field_or_key, drop_index_fk, dup_keyname, wrong_name_for_index}
use Rattle.rules_elements.specs.Keys.{has_index_named}
use Rattle.rules_create.specs.Tables.{one_key}
use Rattle.rules_alter.specs.Altering.{any_referring, with_parts}
use Rattle.rules_alter.specs.declared.states.Altering.{Altering}
use Rattle.rules_alter.specs.Arranged.{arranged}

-- ## ADD KEY

-- a column for which NULL is written
abbrev pub null_words : List ℕ → ColumnWords
null_words name = record { name = name; kind = words.Bool; nullable = Some true; default = None; auto = false; unique = false; primary = false }

-- a key as in CREATE TABLE, behind the others, beside the columns for which NULL or DEFAULT NULL is written
abbrev pub key_added : List (List ℕ) → TableParts → KeyWords → Walk ErrorValue TableParts
key_added nulls parts words = one_key (map null_words nulls) parts words

unfoldable pub add_key : KeyWords → Altering → Walk ErrorValue Altering
add_key words state = do
  parts ← key_added state.nulls state.parts words
  done (with_parts state (arranged state.parts parts))

-- ## Indexes by their names

abbrev pub index_or : List ℕ → Option IndexDef → Walk ErrorValue IndexDef
index_or name None = refuse (cant_drop_field_or_key name)
index_or name (Some index) = done index

-- the index of this name, in any case, or 1091
abbrev pub the_index : TableParts → List ℕ → Walk ErrorValue IndexDef
the_index parts name = index_or name (find (λ (index : IndexDef). same index.name name) parts.indexes)

abbrev pub other_indexes : List ℕ → List IndexDef → List IndexDef
other_indexes name indexes = filter (λ (index : IndexDef). not (same index.name name)) indexes

-- ## DROP INDEX

-- no index begins with the columns of a foreign key
abbrev pub lacks_index : List IndexDef → ForeignKeyDef → Bool
lacks_index indexes key = not (has_index_on indexes key.columns)

-- the foreign key refers to the table, and no index begins with the parent columns
abbrev pub lacks_parent_index : ObjName → List IndexDef → ForeignKeyDef → Bool
lacks_parent_index table indexes key = is_same_object key.parent table && not (has_index_on indexes key.parent_columns)

-- with these indexes alone a foreign key of the table or one that refers to it lacks its index
unfoldable pub is_index_lacking : Altering → List IndexDef → Bool
is_index_lacking state indexes =
    list_any (lacks_index indexes) state.parts.foreign_keys
    || any_referring (λ (parts : TableParts). list_any (lacks_parent_index state.parts.name indexes) parts.foreign_keys) state

-- Unknown: 1091. Without it a foreign key lacks its index: 1553. The name `PRIMARY`, in any case, is that of the primary key.
unfoldable pub drop_index : List ℕ → Altering → Walk ErrorValue Altering
drop_index name state = do
  _ ← the_index state.parts name
  _ ← refuse_if (is_index_lacking state (other_indexes name state.parts.indexes)) (drop_index_fk name)
  done (with_parts state (record state.parts { indexes = other_indexes name state.parts.indexes }))

-- ## RENAME INDEX

abbrev pub not_primary : List ℕ → Walk ErrorValue (Unit {0})
not_primary name = refuse_if (same name primary_name) (wrong_name_for_index name)

abbrev pub with_name : List ℕ → List ℕ → IndexDef → IndexDef
with_name from to index = if same index.name from then record index { name = to } else index

-- Unknown: 1091. From or to `PRIMARY`: 1280. The new name at another index: 1061.
unfoldable pub rename_index : List ℕ → List ℕ → Altering → Walk ErrorValue Altering
rename_index from to state = do
  _ ← the_index state.parts from
  _ ← not_primary from
  _ ← not_primary to
  _ ← refuse_if (has_index_named (other_indexes from state.parts.indexes) to) (dup_keyname to)
  done (with_parts state (record state.parts { indexes = map (with_name from to) state.parts.indexes }))
