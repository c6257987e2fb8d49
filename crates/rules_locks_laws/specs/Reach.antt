-- How far the changes of a plan reach.
use Rattle.std.specs.Prelude.{◌≡◌, ◌⊎◌, ℕ, Bool, true, false, ◌&&◌, not, List, Option, Some, None}
use Rattle.std.specs.FinMap as finite_map
use Rattle.dd_names.specs.declared.object_name.ObjName.{ObjName}
use Rattle.dd_catalog.specs.Catalog.{Catalog, Placed, is_same_object, refers_to, has_constraint}
use Rattle.metadata_locks.specs.declared.request.LockKey.TheVariants as on
use Rattle.metadata_locks.specs.declared.request.Mode.TheVariants.{IX, X}
use Rattle.rules_locks.specs.Holdings.{Holding}
use Rattle.rules_locks.specs.Claims.{reads_object, changes_object}

abbrev pub refers : ObjName → Option Placed → Bool
refers parent None = false
refers parent (Some placed) = refers_to parent placed

abbrev pub has_name : List ℕ → Option Placed → Bool
has_name folded None = false
has_name folded (Some placed) = has_constraint folded placed

-- the object is another one than the table, and refers to it
abbrev pub is_child : Catalog → ObjName → ObjName → Bool
is_child cat parent object = refers parent (finite_map.get cat.objects object) && not (is_same_object object parent)

-- the object has a constraint whose name folds to this
abbrev pub owns : Catalog → ObjName → List ℕ → Bool
owns cat object folded = has_name folded (finite_map.get cat.objects object)

-- Between the two catalogs nothing is different but what these locks are for: a schema that is locked in X; an object that is
-- locked in X below IX on its schema, or whose schema is locked in X; a new child of a table that is locked below its schema, or
-- whose schema is; and a new name of a constraint that is locked in X. Each difference wants IX on the whole.
pub record Reaches (held : Holding) (cat next : Catalog) : Type 0 where
  pub schemas : (name : List ℕ) → (finite_map.contains_key next.schemas name ≡ finite_map.contains_key cat.schemas name) ⊎ ((held on.All IX ≡ true) × (held (on.Schema name) X ≡ true))
  pub objects : (name : ObjName) → (finite_map.get next.objects name ≡ finite_map.get cat.objects name) ⊎ ((held on.All IX ≡ true) × (changes_object held name ≡ true))
  pub children : (parent object : ObjName) → is_child next parent object ≡ true → (is_child cat parent object ≡ true) ⊎ (reads_object held parent ≡ true)
  pub names : (object : ObjName) (folded : List ℕ) → owns next object folded ≡ true → (owns cat object folded ≡ true) ⊎ (held (on.Constraint object.schema folded) X ≡ true)
