-- What the laws of rows name.
use Rattle.std.specs.Prelude.{ℕ, List, [], ◌∷◌, ◌++◌, Option, Some, None}
use Rattle.std.specs.List.{flat_map}
use Rattle.std.specs.FinMap as finite_map
use Rattle.dd_names.specs.declared.object_name.ObjName.{ObjName}
use Rattle.catalog_rows.specs.Owners.{Owner, SchemaIs, ObjectIs}
use Rattle.catalog_rows.specs.Stands.{Standing, Numbered, Has}
use Rattle.catalog_rows.specs.Changes.{IsOne}

-- the catalog has each of these
abbrev pub AreHad : Numbered → List Owner → Type 0
AreHad n owners = (owner : Owner) → IsOne owner owners → Has n owner

-- these are the owners of a catalog with ids
pub record ListsOwners (n : Numbered) (owners : List Owner) : Type 0 where
  pub all : (owner : Owner) → Has n owner → IsOne owner owners
  pub only : AreHad n owners

-- the empty catalog, which has no ids
abbrev pub no_numbered : Numbered
no_numbered = record { schemas = finite_map.empty; objects = finite_map.empty }

-- ## A list of the owners

abbrev pub schema_at : List ℕ → Option ℕ → List Owner
schema_at name None = []
schema_at name (Some id) = SchemaIs name id ∷ []

abbrev pub object_at : ObjName → Option ℕ → Option Standing → List Owner
object_at name None standing = []
object_at name (Some schema) None = []
object_at name (Some schema) (Some standing) = ObjectIs name schema standing.id standing.placed ∷ []

-- the schemas, and then the objects whose schema is there
abbrev pub owners_in : Numbered → List Owner
owners_in n =
    flat_map (λ (name : List ℕ). schema_at name (finite_map.get n.schemas name)) (finite_map.keys n.schemas)
    ++ flat_map (λ (name : ObjName). object_at name (finite_map.get n.schemas name.schema) (finite_map.get n.objects name)) (finite_map.keys n.objects)
