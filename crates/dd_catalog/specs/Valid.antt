-- When a catalog is valid.
use Rattle.std.specs.Prelude.{◌≡◌, ℕ, ◌≤◌, Bool, true, false, ◌&&◌, ◌||◌, not, List, Option, Some, None}
use Rattle.std.specs.List.{list_all}
use Rattle.std.specs.Option.{is_none}
use Rattle.std.specs.FinMap as finite_map
use Rattle.dd_names.specs.Names.{is_name}
use Rattle.dd_names.specs.Reserved.{is_system_schema}
use Rattle.dd_names.specs.declared.object_name.ObjName.{ObjName}
use Rattle.dd_definitions.specs.declared.foreign_keys.ForeignKeyDef.{ForeignKeyDef}
use Rattle.dd_definitions.specs.declared.parts.TableParts.{TableParts}
use Rattle.dd_definitions.specs.ForeignKeys.{has_index_on}
use Rattle.dd_definitions.specs.Named.{has_names, view_has_names}
use Rattle.dd_definitions.specs.Views.{is_view_formed}
use Rattle.dd_definitions.specs.WellFormed.{is_well_formed}
use Rattle.dd_catalog.specs.Kinds.{first_odd_pair, sets_null, first_not_null}
use Rattle.dd_catalog.specs.Catalog.{Catalog, Placed, Table, View, has_constraint}

-- the name that the definition itself carries
abbrev pub own_name : Placed → ObjName
own_name (Table space parts) = parts.name
own_name (View parts) = parts.name

abbrev pub is_placed_named : Placed → Bool
is_placed_named (Table space parts) = has_names parts
is_placed_named (View parts) = view_has_names parts

abbrev pub is_placed_formed : Placed → Bool
is_placed_formed (Table space parts) = is_well_formed parts
is_placed_formed (View parts) = is_view_formed parts

-- each column is of one kind with its parent column, and those that a rule makes NULL may be NULL
unfoldable pub are_columns_paired : TableParts → TableParts → ForeignKeyDef → Bool
are_columns_paired parts parent key =
    is_none (first_odd_pair parts.columns parent.columns key.columns key.parent_columns) && (not (sets_null key) || is_none (first_not_null parts.columns key.columns))

-- the parent is a table with an index that begins with the parent columns, spelled as the parent spells them, and the columns
-- are paired
abbrev pub is_parent_fit : TableParts → ForeignKeyDef → Option Placed → Bool
is_parent_fit parts key (Some (Table space parent)) = has_index_on parent.indexes key.parent_columns && are_columns_paired parts parent key
is_parent_fit parts key (Some (View parent)) = false
is_parent_fit parts key None = false

-- each foreign key of the table has a fit parent in the catalog
abbrev pub are_parents_fit : Catalog → TableParts → Bool
are_parents_fit cat parts = list_all (λ (key : ForeignKeyDef). is_parent_fit parts key (finite_map.get cat.objects key.parent)) parts.foreign_keys

-- the catalog has this under the name
pub record Has (cat : Catalog) (name : ObjName) (placed : Placed) : Type 0 where
  pub is : finite_map.get cat.objects name ≡ Some placed

pub record IsValid (cat : Catalog) : Type 0 where
  -- no schema has, in any case, the name of one that the server has for itself
  pub own_schemas : (name : List ℕ) → finite_map.contains_key cat.schemas name ≡ true → is_system_schema name ≡ false
  -- each name is one: of schemas, objects, columns, indexes, constraints, parents and the parts of views
  pub schemas_named : (name : List ℕ) → finite_map.contains_key cat.schemas name ≡ true → is_name name ≡ true
  pub named : (name : ObjName) (placed : Placed) → Has cat name placed → is_placed_named placed ≡ true
  pub schemas_there : (name : ObjName) (placed : Placed) → Has cat name placed → finite_map.contains_key cat.schemas name.schema ≡ true
  pub names_carried : (name : ObjName) (placed : Placed) → Has cat name placed → own_name placed ≡ name
  pub formed : (name : ObjName) (placed : Placed) → Has cat name placed → is_placed_formed placed ≡ true
  pub spaces_in_range : (name : ObjName) (space : ℕ) (parts : TableParts) → Has cat name (Table space parts) → (1 ≤ space) × (space ≤ 4294967294)
  pub spaces_distinct : (a b : ObjName) (space : ℕ) (parts others : TableParts) → Has cat a (Table space parts) → Has cat b (Table space others) → a ≡ b
  -- two tables of a schema have no two constraints whose names fold to one; within a table its well-formedness says so
  pub constraints_distinct : (a b : ObjName) (placed other : Placed) (folded : List ℕ) → Has cat a placed → Has cat b other → a.schema ≡ b.schema
      → has_constraint folded placed ≡ true → has_constraint folded other ≡ true → a ≡ b
  pub parents_fit : (name : ObjName) (space : ℕ) (parts : TableParts) → Has cat name (Table space parts) → are_parents_fit cat parts ≡ true
