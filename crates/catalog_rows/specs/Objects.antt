-- The owner that an object is under its key.
use Rattle.std.specs.Prelude.{ℕ, Bool, false, List, [], Option, Some, None}
use Rattle.dd_names.specs.declared.object_name.ObjectKey.{ObjectKey}
use Rattle.dd_names.specs.declared.object_name.ObjectKey.TheVariants as keys
use Rattle.dd_catalog.specs.Catalog.{Placed, Table, View}
use Rattle.dd_catalog.specs.declared.object.Object.{Object}
use Rattle.dd_catalog.specs.declared.object.Object.TheVariants as objects
use Rattle.catalog_rows.specs.Owners.{Owner, SchemaIs, ObjectIs, Row}
use Rattle.catalog_rows.specs.Lists.{rows_of}
use Rattle.catalog_rows.specs.Stands.{FitsOwner}
use Rattle.catalog_rows.specs.Changes.{is_erased}

abbrev pub schema_owner : ObjectKey → ℕ → Option Owner
schema_owner keys.Schemas id = None
schema_owner (keys.Schema name) id = Some (SchemaIs name id)
schema_owner (keys.Objects schema) id = None
schema_owner (keys.Object name) id = None
schema_owner (keys.Children parent) id = None
schema_owner (keys.Constraint schema folded) id = None

abbrev pub object_owner : ObjectKey → ℕ → ℕ → Placed → Option Owner
object_owner keys.Schemas schema id placed = None
object_owner (keys.Schema name) schema id placed = None
object_owner (keys.Objects of) schema id placed = None
object_owner (keys.Object name) schema id placed = Some (ObjectIs name schema id placed)
object_owner (keys.Children parent) schema id placed = None
object_owner (keys.Constraint of folded) schema id placed = None

-- a schema under the key of a schema, and a table or view under that of an object; lists and what is absent have no rows
abbrev pub owner_of : ObjectKey → Object → Option Owner
owner_of key (objects.Schema id) = schema_owner key id
owner_of key (objects.Table id schema space parts) = object_owner key schema id (Table space parts)
owner_of key (objects.View id schema parts) = object_owner key schema id (View parts)
owner_of key objects.Absent = None
owner_of key (objects.Schemas names) = None
owner_of key (objects.Objects names) = None
owner_of key (objects.Children tables) = None
owner_of key (objects.Constraint table) = None

abbrev pub rows_if : Option Owner → List Row
rows_if None = []
rows_if (Some owner) = rows_of owner

abbrev pub FitsIf : Option Owner → Type 0
FitsIf None = Unit {0}
FitsIf (Some owner) = FitsOwner owner

abbrev pub is_erased_if : Option Owner → List ℕ → Bool
is_erased_if None key = false
is_erased_if (Some owner) key = is_erased owner key
