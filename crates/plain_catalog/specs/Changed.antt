-- What one change leaves of the schemas, and of the objects.
use Rattle.std.specs.Prelude.{ℕ, Bool, true, false, List, Option, Some, None, if◌then◌else◌}
use Rattle.std.specs.FinMap as finite_map
use Rattle.dd_names.specs.declared.object_name.ObjName.{ObjName}
use Rattle.dd_catalog.specs.Catalog.{NameSet, Placed, object_cmp}
use Rattle.dd_catalog.specs.Catalog as placed
use Rattle.rules_outcome.specs.Choices.{After, Gone, NewSchema, FreshTable, KeptTable, NewView, KeptView}

-- something stands at the key then
abbrev pub is_left : After → Bool
is_left Gone = false
is_left NewSchema = true
is_left (FreshTable parts) = true
is_left (KeptTable space parts) = true
is_left (NewView parts) = true
is_left (KeptView parts) = true

-- the schemas, with this one or without it
abbrev pub schemas_behind : List ℕ → Bool → NameSet → NameSet
schemas_behind name left schemas = if left then finite_map.insert schemas name tt else finite_map.remove schemas name

-- what is kept of an object, if something is left; a table with a new tablespace has this number
abbrev pub stored : ℕ → After → Option Placed
stored space Gone = None
stored space NewSchema = None
stored space (FreshTable parts) = Some (placed.Table space parts)
stored space (KeptTable own parts) = Some (placed.Table own parts)
stored space (NewView parts) = Some (placed.View parts)
stored space (KeptView parts) = Some (placed.View parts)

abbrev pub put_or_remove : ObjName → Option Placed → finite_map.FinMap object_cmp Placed → finite_map.FinMap object_cmp Placed
put_or_remove name None kept = finite_map.remove kept name
put_or_remove name (Some object) kept = finite_map.insert kept name object

-- the objects behind a change at the key of this one
abbrev pub objects_behind : ℕ → ObjName → After → finite_map.FinMap object_cmp Placed → finite_map.FinMap object_cmp Placed
objects_behind space name NewSchema kept = kept
objects_behind space name after kept = put_or_remove name (stored space after) kept
