-- A foreign key whose columns, name and index are settled, beside what its table has so far. Its faults are looked for in this
-- order: the parent isn't there or is a view, 1824; no index of the parent begins with the parent columns, 1822; column by
-- column, kinds that differ, 3780; SET NULL and a column that is NOT NULL, 1830; a name that is there, 1826. 3780 and 1830 name a
-- column as the statement writes it among the columns of the key, which the key keeps as the table spells them.
use Rattle.std.specs.Prelude.{ℕ, Bool, true, false, ◌&&◌, ◌||◌, not, List, [], ◌∷◌, Option, Some, None, map, if◌then◌else◌}
use Rattle.std.specs.List.{list_any, find}
use Rattle.dd_names.specs.Names.{same, fold}
use Rattle.dd_names.specs.declared.object_name.ObjName.{ObjName}
use Rattle.dd_names.specs.declared.object_name.ObjectKey.TheVariants as keys
use Rattle.dd_errors.specs.Errors.{ErrorValue}
use Rattle.dd_definitions.specs.declared.columns.ColumnDef.{ColumnDef}
use Rattle.dd_definitions.specs.declared.indexes.IndexDef.{IndexDef}
use Rattle.dd_definitions.specs.declared.foreign_keys.ForeignKeyDef.{ForeignKeyDef}
use Rattle.dd_definitions.specs.declared.parts.TableParts.{TableParts}
use Rattle.dd_catalog.specs.Sights.{Sight, TableThere, OwnerThere}
use Rattle.dd_catalog.specs.Walks.{Walk, done, refuse, ◌>>=◌, look_at, refuse_if, refuse_some}
use Rattle.dd_catalog.specs.Catalog.{is_same_object}
use Rattle.dd_catalog.specs.Kinds.{column_named, first_odd_pair, sets_null, first_not_null}
use Rattle.rules_refusals.specs.Refusals.{fk_cannot_open_parent, fk_no_index_parent, fk_incompatible_columns, fk_column_not_null, fk_dup_name}

-- ## The parent

abbrev pub table_seen : List ℕ → Sight → Walk ErrorValue TableParts
table_seen parent (TableThere space parts) = done parts
table_seen parent seen = refuse (fk_cannot_open_parent parent)

-- the table itself as it is so far, or the table that stands there
unfoldable pub parent_of : TableParts → ObjName → Walk ErrorValue TableParts
parent_of parts parent = if is_same_object parent parts.name then done parts else (look_at (keys.Object parent) >>= table_seen parent.name)

-- the names begin with the others, in any case
abbrev pub begin_with : List (List ℕ) → List (List ℕ) → Bool
begin_with names [] = true
begin_with [] (other ∷ others) = false
begin_with (name ∷ names) (other ∷ others) = same name other && begin_with names others

abbrev pub has_index_from : List IndexDef → List (List ℕ) → Bool
has_index_from indexes names = list_any (λ (index : IndexDef). begin_with index.columns names) indexes

-- ## Columns

abbrev pub name_or : List ℕ → Option (List ℕ) → List ℕ
name_or name None = name
name_or name (Some other) = other

-- a column's name as it is written among these
abbrev pub as_written : List (List ℕ) → List ℕ → List ℕ
as_written written name = name_or name (find (λ (other : List ℕ). same other name) written)

abbrev pub odd_pair_refused : List (List ℕ) → List ℕ → Option (List ℕ × List ℕ) → Option ErrorValue
odd_pair_refused written constraint None = None
odd_pair_refused written constraint (Some pair) = Some (fk_incompatible_columns (as_written written pair.0) pair.1 constraint)

abbrev pub not_null_refused : List (List ℕ) → List ℕ → Option (List ℕ) → Option ErrorValue
not_null_refused written constraint None = None
not_null_refused written constraint (Some column) = Some (fk_column_not_null (as_written written column) constraint)

-- a column that a rule makes NULL may be NULL
abbrev pub set_null_refused : List (List ℕ) → List ColumnDef → ForeignKeyDef → Option ErrorValue
set_null_refused written columns key = if sets_null key then not_null_refused written key.name (first_not_null columns key.columns) else None

abbrev pub name_of_column : List ℕ → Option ColumnDef → List ℕ
name_of_column name None = name
name_of_column name (Some column) = column.name

-- a column's name as the table spells it
abbrev pub spelled : List ColumnDef → List ℕ → List ℕ
spelled columns name = name_of_column name (column_named columns name)

-- ## The name

-- the constraint is another table's
abbrev pub is_owned_elsewhere : ObjName → Sight → Bool
is_owned_elsewhere table (OwnerThere owner) = not (is_same_object owner table)
is_owned_elsewhere table seen = false

abbrev pub has_constraint_named : List ForeignKeyDef → List ℕ → Bool
has_constraint_named keys name = list_any (λ (key : ForeignKeyDef). same key.name name) keys

-- the name stands neither at another table of the schema nor at this one
unfoldable pub name_is_free : TableParts → List ℕ → Walk ErrorValue (Unit {0})
name_is_free parts name = do
  owner ← look_at (keys.Constraint parts.name.schema (fold name))
  refuse_if (is_owned_elsewhere parts.name owner || has_constraint_named parts.foreign_keys name) (fk_dup_name name)

-- ## The foreign key

abbrev pub with_parent_columns : ForeignKeyDef → List (List ℕ) → ForeignKeyDef
with_parent_columns key names = record key { parent_columns = names }

-- The parent columns are kept as the parent spells them. Behind the table are the columns of the key as the statement writes
-- them; where none writes them, those of the key.
unfoldable pub foreign_key_of : TableParts → List (List ℕ) → ForeignKeyDef → Walk ErrorValue ForeignKeyDef
foreign_key_of parts written key = do
  parent ← parent_of parts key.parent
  _ ← refuse_if (not (has_index_from parent.indexes key.parent_columns)) (fk_no_index_parent key.name key.parent.name)
  _ ← refuse_some (odd_pair_refused written key.name (first_odd_pair parts.columns parent.columns key.columns key.parent_columns))
  _ ← refuse_some (set_null_refused written parts.columns key)
  _ ← name_is_free parts key.name
  done (with_parent_columns key (map (spelled parent.columns) key.parent_columns))
