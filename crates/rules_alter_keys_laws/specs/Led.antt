-- Foreign keys that refer to a table, and its indexes.
use Rattle.std.specs.Prelude.{◌≡◌, Bool, true, ◌||◌, not, List}
use Rattle.std.specs.List.{list_all, AllByRecursion}
use Rattle.dd_names.specs.declared.object_name.ObjName.{ObjName}
use Rattle.dd_definitions.specs.ForeignKeys.{has_index_on}
use Rattle.dd_definitions.specs.declared.foreign_keys.ForeignKeyDef.{ForeignKeyDef}
use Rattle.dd_definitions.specs.declared.indexes.IndexDef.{IndexDef}
use Rattle.dd_catalog.specs.Catalog.{is_same_object}
use Rattle.rules_alter.specs.declared.states.Altering.{Altering}
use Rattle.rules_alter.specs.declared.states.Child.{Child}

-- where the foreign key refers to the table, one of the indexes begins with the parent columns
abbrev pub is_led : ObjName → List IndexDef → ForeignKeyDef → Bool
is_led table indexes key = not (is_same_object key.parent table) || has_index_on indexes key.parent_columns

abbrev pub are_led : ObjName → List IndexDef → List ForeignKeyDef → Bool
are_led table indexes keys = list_all (is_led table indexes) keys

-- the foreign keys of the table and of its children that refer to it have their indexes there
pub record IsLed (state : Altering) : Type 0 where
  pub own : are_led state.parts.name state.parts.indexes state.parts.foreign_keys ≡ true
  pub children : AllByRecursion (λ (child : Child). are_led state.parts.name state.parts.indexes child.parts.foreign_keys ≡ true) state.children
