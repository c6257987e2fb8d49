-- The keys that claims change.
use Rattle.std.specs.Prelude.{◌≡◌, Bool, ◌||◌, List, [], ◌∷◌}
use Rattle.std.specs.List.{list_any, flat_map}
use Rattle.std.specs.BTreeMap.{is_at}
use Rattle.std.specs.BTreeSet.{insert_key}
use Rattle.std.specs.declared.cmp.Ordering.{Ordering}
use Rattle.dd_names.specs.declared.object_name.ObjName.{ObjName}
use Rattle.dd_names.specs.declared.object_name.ObjectKey.{ObjectKey}
use Rattle.dd_names.specs.declared.object_name.ObjectKey.TheVariants as keys
use Rattle.dd_catalog.specs.Catalog.{object_cmp}
use Rattle.dd_catalog.specs.Sights.{Sight, OwnerThere}
use Rattle.dd_index.specs.Keys.{key_cmp}
use Rattle.rules_schema.specs.Drops.{children_seen}
use Rattle.rules_locks.specs.Claims.{Claim, ChangeSchema, ChangeObject, JoinParent, TakeName}
use Rattle.rules_evictions.specs.declared.evicting.Evictions.{Evictions}

-- at these it changes what stands there
abbrev pub changed_keys : Claim → List ObjectKey
changed_keys (ChangeSchema name) = keys.Schemas ∷ keys.Schema name ∷ []
changed_keys (ChangeObject object) = keys.Objects object.schema ∷ keys.Object object ∷ []
changed_keys (JoinParent parent) = keys.Children parent ∷ []
changed_keys (TakeName schema folded) = keys.Constraint schema folded ∷ []
changed_keys claim = []

abbrev pub changed_objects : Claim → List ObjName
changed_objects (ChangeObject object) = object ∷ []
changed_objects claim = []

-- more values, each at its place in the order unless it is there
abbrev pub with_each : {K : Type 0} → (K → K → Ordering) → List K → List K → List K
with_each cmp all [] = all
with_each cmp all (x ∷ xs) = with_each cmp (insert_key cmp all x) xs

-- what is added besides is what these claims change
pub record Adds (old new : Evictions) (claims : List Claim) : Type 0 where
  pub keys : new.keys.keys ≡ with_each key_cmp old.keys.keys (flat_map changed_keys claims)
  pub objects : new.objects.keys ≡ with_each object_cmp old.objects.keys (flat_map changed_objects claims)

-- they are what these claims change
pub record AreOf (evicted : Evictions) (claims : List Claim) : Type 0 where
  pub keys : evicted.keys.keys ≡ with_each key_cmp [] (flat_map changed_keys claims)
  pub objects : evicted.objects.keys ≡ with_each object_cmp [] (flat_map changed_objects claims)

abbrev pub has_key : List ObjectKey → ObjectKey → Bool
has_key all key = list_any (is_at (key_cmp key)) all

abbrev pub has_object : List ObjName → ObjName → Bool
has_object all object = list_any (is_at (object_cmp object)) all

-- one of these is among all
abbrev pub has_one : List ObjName → List ObjName → Bool
has_one all objects = list_any (has_object all) objects

-- a constraint's name is taken as long as its owner stays as it is
abbrev pub owner_hit : List ObjectKey → List ObjName → ObjectKey → Sight → Bool
owner_hit all objects key (OwnerThere owner) = has_object objects owner
owner_hit all objects key seen = has_key all key

-- the children of a table stay as they are where no table comes to it, and none of them changes
abbrev pub hit_at : List ObjectKey → List ObjName → ObjectKey → Sight → Bool
hit_at all objects (keys.Children parent) seen = has_key all (keys.Children parent) || has_one objects (children_seen seen)
hit_at all objects (keys.Constraint schema folded) seen = owner_hit all objects (keys.Constraint schema folded) seen
hit_at all objects key seen = has_key all key
