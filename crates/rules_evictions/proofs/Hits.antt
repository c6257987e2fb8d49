-- The keys that claims change hit exactly what the claims hit.
use Rattle.std.specs.Prelude.{◌≡◌, ℕ, Bool, true, false, ◌&&◌, ◌||◌, List, [], map, refl}
use Rattle.std.specs.List.{list_any, flat_map}
use Rattle.std.specs.BTreeMap.{is_at}
use Rattle.std.specs.Cmp.{tied_then}
use Rattle.std.specs.Ordering.{is_eq, ordering_then}
use Rattle.std.specs.Str.{bytes_eq}
use Rattle.std.proofs.Common.{sym, ◌∙◌, ap}
use Rattle.std.proofs.lemmas.Map.Text.{is_eq-slice_cmp}
use Rattle.dd_names.specs.Names.{name_cmp}
use Rattle.dd_names.specs.declared.object_name.ObjName.{ObjName}
use Rattle.dd_names.specs.declared.object_name.ObjectKey.{ObjectKey}
use Rattle.dd_names.specs.declared.object_name.ObjectKey.TheVariants as keys
use Rattle.dd_catalog.specs.Catalog.{is_same_object, object_cmp}
use Rattle.dd_catalog.specs.Sights.{Sight, ChildrenThere, OwnerThere}
use Rattle.dd_catalog.proofs.ObjectNames.{object_alone, tied_is_same}
use Rattle.dd_index.specs.Keys.{key_cmp}
use Rattle.dd_index.proofs.KeyOrder.{key_alone}
use Rattle.rules_locks.specs.Claims.{Claim, KeepSchemas, KeepSchema, KeepObjects, KeepObject, KeepChildren, KeepFree, ChangeSchema, ChangeObject, JoinParent, TakeName}
use Rattle.rules_locks.specs.Evictions.{is_broken, is_hit}
use Rattle.rules_locks.specs.Locks.{Reads, child_claim}
use Rattle.rules_locks.proofs.Places.{bytes_are, bytes_itself}
use Rattle.rules_evictions.specs.declared.evicting.Evictions.{Evictions}
use Rattle.rules_evictions.specs.Evicted.{AreOf, changed_keys, changed_objects, has_key, has_object, has_one, hit_at}
use Rattle.rules_evictions.proofs.Sets.{any_flat, any_map, any_same, has_each, or_none}

-- ## One claim

same_answer : (a b : Bool) → (a ≡ true → b ≡ true) → (b ≡ true → a ≡ true) → a ≡ b
same_answer true b there back = sym (there refl)
same_answer false true there back = back refl
same_answer false false there back = refl

bytes_turned : (a b : List ℕ) → bytes_eq a b ≡ bytes_eq b a
bytes_turned a b = same_answer (bytes_eq a b) (bytes_eq b a) (turned a b) (turned b a)
  where
    turned : (a b : List ℕ) → bytes_eq a b ≡ true → bytes_eq b a ≡ true
    turned a b is = ap (bytes_eq b) (bytes_are a b is) ∙ bytes_itself b

name_tied : (a b : List ℕ) → bytes_eq a b ≡ (is_eq (name_cmp a b) || false)
name_tied a b = sym (or_none (is_eq (name_cmp a b)) ∙ is_eq-slice_cmp a b)

object_tied : (a b : ObjName) → is_same_object a b ≡ (is_eq (object_cmp a b) || false)
object_tied a b = sym (or_none (is_eq (object_cmp a b)) ∙ tied_is_same a b)

schemas_broken : (claim : Claim) → is_broken KeepSchemas claim ≡ has_key (changed_keys claim) keys.Schemas
schemas_broken (ChangeSchema name) = refl
schemas_broken claim = refl

schema_broken : (name : List ℕ) (claim : Claim) → is_broken (KeepSchema name) claim ≡ has_key (changed_keys claim) (keys.Schema name)
schema_broken name (ChangeSchema other) = name_tied name other
schema_broken name claim = refl

objects_broken : (schema : List ℕ) (claim : Claim) → is_broken (KeepObjects schema) claim ≡ has_key (changed_keys claim) (keys.Objects schema)
objects_broken schema (ChangeObject object) = bytes_turned object.schema schema ∙ name_tied schema object.schema
objects_broken schema claim = refl

object_broken : (object : ObjName) (claim : Claim) → is_broken (KeepObject object) claim ≡ has_key (changed_keys claim) (keys.Object object)
object_broken object (ChangeObject other) = object_tied object other
object_broken object claim = refl

object_changed : (object : ObjName) (claim : Claim) → is_broken (KeepObject object) claim ≡ has_object (changed_objects claim) object
object_changed object (ChangeObject other) = object_tied object other
object_changed object claim = refl

children_broken : (parent : ObjName) (claim : Claim) → is_broken (KeepChildren parent) claim ≡ has_key (changed_keys claim) (keys.Children parent)
children_broken parent (JoinParent other) = object_tied parent other
children_broken parent claim = refl

free_broken : (schema folded : List ℕ) (claim : Claim) → is_broken (KeepFree schema folded) claim ≡ has_key (changed_keys claim) (keys.Constraint schema folded)
free_broken schema folded (TakeName other name) =
    sym
    (or_none (is_eq (ordering_then (name_cmp schema other) (name_cmp folded name)))
    ∙ sym (tied_then (name_cmp schema other) (name_cmp folded name))
    ∙ ap (λ v. v && is_eq (name_cmp folded name)) (is_eq-slice_cmp schema other)
    ∙ ap (λ v. bytes_eq schema other && v) (is_eq-slice_cmp folded name))
free_broken schema folded claim = refl

-- ## All claims

module _ (evicted : Evictions) (all : List Claim) (of : AreOf evicted all) where
  key_hit : (keep : Claim) (key : ObjectKey) → ((claim : Claim) → is_broken keep claim ≡ has_key (changed_keys claim) key) → has_key evicted.keys.keys key ≡ list_any (is_broken keep) all
  key_hit keep key same =
      ap (λ keys. has_key keys key) of.keys ∙ has_each key_cmp key_alone key [] (flat_map changed_keys all) ∙ or_none (has_key (flat_map changed_keys all) key)
      ∙ sym (any_flat (is_at (key_cmp key)) changed_keys (is_broken keep) same all)

  object_hit : (object : ObjName) → has_object evicted.objects.keys object ≡ list_any (is_broken (KeepObject object)) all
  object_hit object =
      ap (λ objects. has_object objects object) of.objects ∙ has_each object_cmp object_alone object [] (flat_map changed_objects all) ∙ or_none (has_object (flat_map changed_objects all) object)
      ∙ sym (any_flat (is_at (object_cmp object)) changed_objects (is_broken (KeepObject object)) (object_changed object) all)

  -- what the look keeps is broken
  abbrev breaks : Claim → Bool
  breaks keep = list_any (is_broken keep) all

  one_hit : (keep : Claim) (key : ObjectKey) → ((claim : Claim) → is_broken keep claim ≡ has_key (changed_keys claim) key) → has_key evicted.keys.keys key ≡ (breaks keep || false)
  one_hit keep key same = key_hit keep key same ∙ sym (or_none (breaks keep))

  children_hit : (children : List ObjName) → has_one evicted.objects.keys children ≡ list_any breaks (map (child_claim Reads) children)
  children_hit children = any_same (has_object evicted.objects.keys) (λ child. breaks (KeepObject child)) object_hit children ∙ sym (any_map breaks (child_claim Reads) children)

  listed_hit : (parent : ObjName) (children : List ObjName) → (has_key evicted.keys.keys (keys.Children parent) || has_one evicted.objects.keys children) ≡ (breaks (KeepChildren parent) || list_any breaks (map (child_claim Reads) children))
  listed_hit parent children = λ i. key_hit (KeepChildren parent) (keys.Children parent) (children_broken parent) i || children_hit children i

  pub hit_is : (key : ObjectKey) (seen : Sight) → hit_at evicted.keys.keys evicted.objects.keys key seen ≡ is_hit all key seen
  hit_is keys.Schemas seen = one_hit KeepSchemas keys.Schemas schemas_broken
  hit_is (keys.Schema name) seen = one_hit (KeepSchema name) (keys.Schema name) (schema_broken name)
  hit_is (keys.Objects schema) seen = one_hit (KeepObjects schema) (keys.Objects schema) (objects_broken schema)
  hit_is (keys.Object object) seen = one_hit (KeepObject object) (keys.Object object) (object_broken object)
  hit_is (keys.Children parent) (ChildrenThere children) = listed_hit parent children
  hit_is (keys.Children parent) seen = listed_hit parent []
  hit_is (keys.Constraint schema folded) (OwnerThere owner) = object_hit owner ∙ sym (or_none (breaks (KeepObject owner)))
  hit_is (keys.Constraint schema folded) seen = one_hit (KeepFree schema folded) (keys.Constraint schema folded) (free_broken schema folded)
