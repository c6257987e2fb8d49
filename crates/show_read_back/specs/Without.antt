-- A catalog without one of its tables, as a check sees it.
use Rattle.std.specs.Prelude.{◌≡◌, ◌⊎◌, ℕ, false, List, [], Some, if◌then◌else◌}
use Rattle.dd_names.specs.declared.object_name.ObjName.{ObjName}
use Rattle.dd_names.specs.declared.object_name.ObjectKey.{ObjectKey}
use Rattle.dd_names.specs.declared.object_name.ObjectKey.TheVariants as keys
use Rattle.dd_catalog.specs.Sights.{Sight, Nothing, ChildrenThere, OwnerThere}
use Rattle.dd_catalog.specs.Catalog.{Catalog, is_same_object, sight_of}
use Rattle.dd_catalog.specs.WalkLaws.{Look}

-- Nothing stands at the table's name, and no table has a foreign key on it; else it is as in the catalog. A constraint of the
-- table itself has this owner or none.
pub record IsWithout (cat : Catalog) (name : ObjName) (look : Look) : Type 0 where
  pub table : look (keys.Object name) ≡ Some Nothing
  pub children : look (keys.Children name) ≡ Some (ChildrenThere [])
  pub objects : (other : ObjName) → is_same_object other name ≡ false → look (keys.Object other) ≡ Some (sight_of cat (keys.Object other))
  pub schemas : (schema : List ℕ) → look (keys.Schema schema) ≡ Some (sight_of cat (keys.Schema schema))
  pub constraints : (schema folded : List ℕ) → (look (keys.Constraint schema folded) ≡ Some (sight_of cat (keys.Constraint schema folded)))
      ⊎ ((look (keys.Constraint schema folded) ≡ Some Nothing) × (sight_of cat (keys.Constraint schema folded) ≡ OwnerThere name))

-- the owner of a constraint, unless it is this table
abbrev pub other_owner : ObjName → Sight → Sight
other_owner name (OwnerThere owner) = if is_same_object owner name then Nothing else OwnerThere owner
other_owner name seen = seen

-- what stands at a key without the table
abbrev pub sight_without : Catalog → ObjName → ObjectKey → Sight
sight_without cat name (keys.Object other) = if is_same_object other name then Nothing else sight_of cat (keys.Object other)
sight_without cat name (keys.Children parent) = if is_same_object parent name then ChildrenThere [] else sight_of cat (keys.Children parent)
sight_without cat name (keys.Constraint schema folded) = other_owner name (sight_of cat (keys.Constraint schema folded))
sight_without cat name key = sight_of cat key

-- a look-up that knows all of it
abbrev pub without : Catalog → ObjName → Look
without cat name key = Some (sight_without cat name key)

-- so there is such a look-up for each catalog and name
abbrev pub EachIsSeenWithout : Type 0
EachIsSeenWithout = (cat : Catalog) (name : ObjName) → IsWithout cat name (without cat name)
