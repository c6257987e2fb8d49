-- What a change of a catalog with ids has to keep, so that rows can follow it.
use Rattle.std.specs.Prelude.{◌≡◌, ◌⊎◌, ℕ, ◌<◌, ◌≤◌, ◌^◌, List}
use Rattle.dd_catalog.specs.Catalog.{Catalog}
use Rattle.dd_catalog.specs.Valid.{IsValid}
use Rattle.catalog_rows.specs.Owners.{Owner, SchemaIs, ObjectIs}
use Rattle.catalog_rows.specs.Stands.{Numbered, IsOf, FitsOwner, IsSpaceBelow}
use Rattle.catalog_rows.specs.Changes.{IsOne, Follows}

-- its id is below, and its space id if it has one
abbrev pub IsOwnerBelow : ℕ → Owner → Type 0
IsOwnerBelow next (SchemaIs name id) = id < next
IsOwnerBelow next (ObjectIs name schema id placed) = (id < next) × IsSpaceBelow next placed

-- two schemas with one id, or two objects
abbrev pub SharesId : Owner → Owner → Type 0
SharesId (SchemaIs a id) (SchemaIs b other) = id ≡ other
SharesId (SchemaIs a id) (ObjectIs b schema other placed) = ⊥
SharesId (ObjectIs a schema id placed) (SchemaIs b other) = ⊥
SharesId (ObjectIs a schema id placed) (ObjectIs b beside other with) = id ≡ other

-- its id isn't below the next number, so nothing has it yet
abbrev pub IsDrawn : ℕ → Owner → Type 0
IsDrawn next (SchemaIs name id) = next ≤ id
IsDrawn next (ObjectIs name schema id placed) = next ≤ id

-- its id is one of those drawn since, or one of a kind that goes has it
abbrev pub IsNumberedFrom : ℕ → List Owner → Owner → Type 0
IsNumberedFrom next gone owner = IsDrawn next owner ⊎ ((old : Owner) × IsOne old gone × SharesId old owner)

-- where the next number rises from before to behind, those that come have names that are names and numbers that have
-- room; each has a drawn id, or the id of one that goes; no two have one id; and all their numbers are below the next
-- one behind
pub record ComeNumbered (before behind : ℕ) (gone come : List Owner) : Type 0 where
  pub fits : (owner : Owner) → IsOne owner come → FitsOwner owner
  pub from : (owner : Owner) → IsOne owner come → IsNumberedFrom before gone owner
  pub apart : (a b : Owner) → IsOne a come → IsOne b come → SharesId a b → a ≡ b
  pub below : (owner : Owner) → IsOne owner come → IsOwnerBelow behind owner
  pub rises : before ≤ behind
  pub room : behind < 2 ^ 32

-- these go and those come, and what is then there is a valid catalog with its ids
pub record LeadsTo (n next : Numbered) (now : Catalog) (gone come : List Owner) : Type 0 where
  pub follows : Follows n next gone come
  pub of : IsOf next now
  pub valid : IsValid now
