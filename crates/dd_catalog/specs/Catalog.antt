-- Catalogs, and what stands at each key of one.
use Rattle.std.specs.Prelude.{ℕ, Bool, ◌&&◌, not, if◌then◌else◌, List, [], ◌∷◌, Option, Some, None}
use Rattle.std.specs.declared.cmp.Ordering.{Ordering}
use Rattle.std.specs.Ordering.{ordering_then}
use Rattle.std.specs.List.{list_any}
use Rattle.std.specs.Str.{bytes_eq}
use Rattle.std.specs.FinMap as finite_map
use Rattle.dd_names.specs.Names.{fold, name_cmp}
use Rattle.dd_names.specs.declared.object_name.ObjName.{ObjName}
use Rattle.dd_names.specs.declared.object_name.ObjectKey.{ObjectKey}
use Rattle.dd_names.specs.declared.object_name.ObjectKey.TheVariants as keys
use Rattle.dd_definitions.specs.declared.foreign_keys.ForeignKeyDef.{ForeignKeyDef}
use Rattle.dd_definitions.specs.declared.parts.TableParts.{TableParts}
use Rattle.dd_definitions.specs.declared.view_parts.ViewParts.{ViewParts}
use Rattle.dd_catalog.specs.Sights.{Sight, Nothing, SchemaThere, TableThere, ViewThere, NamesThere, ChildrenThere, OwnerThere}

-- a table with its space id, or a view
pub data Placed : Type 0 where
  Table : ℕ → TableParts → Placed
  View : ViewParts → Placed

-- a finite set of names
abbrev pub NameSet : Type 0
NameSet = finite_map.FinMap name_cmp (Unit {0})

-- by the schemas, and then by the objects' own names
abbrev pub object_cmp : ObjName → ObjName → Ordering
object_cmp a b = ordering_then (name_cmp a.schema b.schema) (name_cmp a.name b.name)

abbrev pub is_same_object : ObjName → ObjName → Bool
is_same_object a b = bytes_eq a.schema b.schema && bytes_eq a.name b.name

-- the schemas, and under each name the object that has it
pub record Catalog : Type 0 where
  pub schemas : NameSet
  pub objects : finite_map.FinMap object_cmp Placed

abbrev pub empty_catalog : Catalog
empty_catalog = record { schemas = finite_map.empty; objects = finite_map.empty }

-- ## What stands at each key

abbrev pub foreign_keys_of : Placed → List ForeignKeyDef
foreign_keys_of (Table space parts) = parts.foreign_keys
foreign_keys_of (View parts) = []

-- a foreign key of the object has this parent
abbrev pub refers_to : ObjName → Placed → Bool
refers_to parent placed = list_any (λ (key : ForeignKeyDef). is_same_object key.parent parent) (foreign_keys_of placed)

-- a foreign key of the object has a name that folds to this
abbrev pub has_constraint : List ℕ → Placed → Bool
has_constraint folded placed = list_any (λ (key : ForeignKeyDef). bytes_eq (fold key.name) folded) (foreign_keys_of placed)

-- the names of the schema's objects
abbrev pub names_among : List ℕ → List (ObjName × Placed) → List (List ℕ)
names_among schema [] = []
names_among schema (entry ∷ entries) = if bytes_eq entry.0.schema schema then entry.0.name ∷ names_among schema entries else names_among schema entries

-- the other tables with a foreign key on this one
abbrev pub children_among : ObjName → List (ObjName × Placed) → List ObjName
children_among parent [] = []
children_among parent (entry ∷ entries) =
    if refers_to parent entry.1 && not (is_same_object entry.0 parent) then entry.0 ∷ children_among parent entries else children_among parent entries

-- the table of the schema that has the constraint
abbrev pub owner_among : List ℕ → List ℕ → List (ObjName × Placed) → Sight
owner_among schema folded [] = Nothing
owner_among schema folded (entry ∷ entries) =
    if bytes_eq entry.0.schema schema && has_constraint folded entry.1 then OwnerThere entry.0 else owner_among schema folded entries

abbrev pub schema_seen : Bool → Sight
schema_seen present = if present then SchemaThere else Nothing

abbrev pub object_seen : Option Placed → Sight
object_seen None = Nothing
object_seen (Some (Table space parts)) = TableThere space parts
object_seen (Some (View parts)) = ViewThere parts

-- what stands at a key; lists of names are in the order of the catalog
abbrev pub sight_of : Catalog → ObjectKey → Sight
sight_of cat keys.Schemas = NamesThere (finite_map.keys cat.schemas)
sight_of cat (keys.Schema name) = schema_seen (finite_map.contains_key cat.schemas name)
sight_of cat (keys.Objects schema) = NamesThere (names_among schema (finite_map.entries cat.objects))
sight_of cat (keys.Object name) = object_seen (finite_map.get cat.objects name)
sight_of cat (keys.Children parent) = ChildrenThere (children_among parent (finite_map.entries cat.objects))
sight_of cat (keys.Constraint schema folded) = owner_among schema folded (finite_map.entries cat.objects)

-- a look-up that knows all of the catalog
abbrev pub all_of : Catalog → ObjectKey → Option Sight
all_of cat key = Some (sight_of cat key)
