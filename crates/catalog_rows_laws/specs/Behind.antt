-- The catalog behind a change, with its ids: without those that go, and then with those that come.
use Rattle.std.specs.Prelude.{◌≡◌, ℕ, List, [], ◌∷◌, Option, Some, None}
use Rattle.std.specs.Option.{option_map}
use Rattle.std.specs.declared.cmp.Ordering.{Ordering}
use Rattle.std.specs.FinMap as finite_map
use Rattle.dd_names.specs.declared.object_name.ObjName.{ObjName}
use Rattle.dd_catalog.specs.Catalog.{Catalog, Placed}
use Rattle.catalog_rows.specs.Owners.{Owner, SchemaIs, ObjectIs}
use Rattle.catalog_rows.specs.Stands.{Standing, Numbered, placed_in, Has}
use Rattle.catalog_rows.specs.Changes.{IsOne}
use Rattle.catalog_rows_laws.specs.Laws.{AreHad}

-- ## Maps

abbrev pub put_one : {K V : Type 0} {R : K → K → Ordering} → Option (K × V) → finite_map.FinMap R V → finite_map.FinMap R V
put_one None m = m
put_one (Some pair) m = finite_map.insert m pair.0 pair.1

abbrev pub drop_one : {K V : Type 0} {R : K → K → Ordering} → Option (K × V) → finite_map.FinMap R V → finite_map.FinMap R V
drop_one None m = m
drop_one (Some pair) m = finite_map.remove m pair.0

-- what the owners have for the map is put into it, in order
abbrev pub put_all : {K V : Type 0} {R : K → K → Ordering} → (Owner → Option (K × V)) → List Owner → finite_map.FinMap R V → finite_map.FinMap R V
put_all pick [] m = m
put_all pick (owner ∷ owners) m = put_all pick owners (put_one (pick owner) m)

-- or taken from it
abbrev pub drop_all : {K V : Type 0} {R : K → K → Ordering} → (Owner → Option (K × V)) → List Owner → finite_map.FinMap R V → finite_map.FinMap R V
drop_all pick [] m = m
drop_all pick (owner ∷ owners) m = drop_all pick owners (drop_one (pick owner) m)

-- ## Catalogs

-- a schema's name with its id
abbrev pub schema_in : Owner → Option (List ℕ × ℕ)
schema_in (SchemaIs name id) = Some (name, id)
schema_in (ObjectIs name schema id placed) = None

-- an object's name with the object and its id
abbrev pub object_in : Owner → Option (ObjName × Standing)
object_in (SchemaIs name id) = None
object_in (ObjectIs name schema id placed) = Some (name, record { id = id; placed = placed })

-- the same without ids
abbrev pub name_in : Owner → Option (List ℕ × Unit {0})
name_in owner = option_map (λ (pair : List ℕ × ℕ). (pair.0, tt)) (schema_in owner)

abbrev pub thing_in : Owner → Option (ObjName × Placed)
thing_in owner = option_map (λ (pair : ObjName × Standing). (pair.0, placed_in pair.1)) (object_in owner)

abbrev pub numbered_behind : List Owner → List Owner → Numbered → Numbered
numbered_behind gone come n = record { schemas = put_all schema_in come (drop_all schema_in gone n.schemas); objects = put_all object_in come (drop_all object_in gone n.objects) }

abbrev pub catalog_behind : List Owner → List Owner → Catalog → Catalog
catalog_behind gone come cat = record { schemas = put_all name_in come (drop_all name_in gone cat.schemas); objects = put_all thing_in come (drop_all thing_in gone cat.objects) }

-- ## What can be exchanged

-- two schemas of one name, or two objects
abbrev pub SharesName : Owner → Owner → Type 0
SharesName (SchemaIs a id) (SchemaIs b other) = a ≡ b
SharesName (SchemaIs a id) (ObjectIs b schema other placed) = ⊥
SharesName (ObjectIs a schema id placed) (SchemaIs b other) = ⊥
SharesName (ObjectIs a schema id placed) (ObjectIs b beside other with) = a ≡ b

-- those that go are there; no two that come have one name, and each name is free or becomes so; with a schema go its
-- objects; and what comes has the id that its schema has then
pub record CanExchange (n : Numbered) (gone come : List Owner) : Type 0 where
  pub had : AreHad n gone
  pub once : (a b : Owner) → IsOne a come → IsOne b come → SharesName a b → a ≡ b
  pub free : (a b : Owner) → IsOne a come → Has n b → SharesName a b → IsOne b gone
  pub emptied : (name : ObjName) (schema id : ℕ) (placed : Placed) → Has n (ObjectIs name schema id placed) → IsOne (SchemaIs name.schema schema) gone → IsOne (ObjectIs name schema id placed) gone
  pub inside : (name : ObjName) (schema id : ℕ) (placed : Placed) → IsOne (ObjectIs name schema id placed) come → finite_map.get (numbered_behind gone come n).schemas name.schema ≡ Some schema
