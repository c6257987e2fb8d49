-- Foreign keys whose names no other table has, and whose parents have their indexes.
use Rattle.std.specs.Prelude.{◌≡◌, Bool, true, false, ◌&&◌, ◌||◌, not, Option, Some, None}
use Rattle.std.specs.List.{list_all, AllByRecursion}
use Rattle.dd_names.specs.Names.{fold}
use Rattle.dd_names.specs.declared.object_name.ObjName.{ObjName}
use Rattle.dd_names.specs.declared.object_name.ObjectKey.TheVariants as keys
use Rattle.dd_definitions.specs.ForeignKeys.{has_index_on}
use Rattle.dd_definitions.specs.declared.foreign_keys.ForeignKeyDef.{ForeignKeyDef}
use Rattle.dd_definitions.specs.declared.parts.TableParts.{TableParts}
use Rattle.dd_catalog.specs.Catalog.{is_same_object}
use Rattle.dd_catalog.specs.Sights.{Sight, TableThere}
use Rattle.dd_catalog.specs.Valid.{are_columns_paired}
use Rattle.dd_catalog.specs.WalkLaws.{Look}
use Rattle.rules_elements.specs.ForeignKeys.{is_owned_elsewhere}
use Rattle.rules_alter.specs.declared.states.Altering.{Altering}
use Rattle.rules_alter.specs.declared.states.Child.{Child}

-- no other table is seen to have the constraint
abbrev pub is_unowned : ObjName → Option Sight → Bool
is_unowned table None = false
is_unowned table (Some seen) = not (is_owned_elsewhere table seen)

-- a table is seen there, one of whose indexes begins with the parent columns
abbrev pub has_parent_index : ForeignKeyDef → Option Sight → Bool
has_parent_index key (Some (TableThere space parent)) = has_index_on parent.indexes key.parent_columns
has_parent_index key seen = false

-- no other table of the schema has the name, and the parent, where it is another table, has an index
abbrev pub is_grounded : Look → ObjName → ForeignKeyDef → Bool
is_grounded look table key =
    is_unowned table (look (keys.Constraint table.schema (fold key.name))) && (is_same_object key.parent table || has_parent_index key (look (keys.Object key.parent)))

pub record IsGrounded (look : Look) (state : Altering) : Type 0 where
  pub own : list_all (is_grounded look state.parts.name) state.parts.foreign_keys ≡ true

-- the columns are paired with those of the table that is seen there
abbrev pub is_paired_there : TableParts → ForeignKeyDef → Option Sight → Bool
is_paired_there parts key (Some (TableThere space parent)) = are_columns_paired parts parent key
is_paired_there parts key seen = false

-- the columns are paired with those of the table itself, or of the other table that is the parent
abbrev pub is_own_paired : Look → TableParts → ForeignKeyDef → Bool
is_own_paired look parts key = (not (is_same_object key.parent parts.name) || are_columns_paired parts parts key) && (is_same_object key.parent parts.name || is_paired_there parts key (look (keys.Object key.parent)))

-- where a child's foreign key refers to the table, its columns are paired with the table's
abbrev pub is_child_paired : TableParts → TableParts → ForeignKeyDef → Bool
is_child_paired parts child key = not (is_same_object key.parent parts.name) || are_columns_paired child parts key

-- the columns of each foreign key of the table, and of each child's on it, are paired
pub record ArePaired (look : Look) (state : Altering) : Type 0 where
  pub own : list_all (is_own_paired look state.parts) state.parts.foreign_keys ≡ true
  pub children : AllByRecursion (λ (child : Child). list_all (is_child_paired state.parts child.parts) child.parts.foreign_keys ≡ true) state.children
