-- What a cache has.
use Rattle.std.specs.Prelude.{ℕ, ◌≡◌, ◌≤◌, ◌==◌, ◌&&◌, not, Bool, List, length, filter, Option, Some, None, is_some}
use Rattle.std.specs.List.{list_any}
use Rattle.std.specs.Ordering.{is_eq}
use Rattle.std.specs.declared.cmp.Ordering.{Ordering}
use Rattle.std.specs.Arc.{arc_value}
use Rattle.std.specs.BTreeMap.{is_at}
use Rattle.std.specs.Map.{lookup}
use Rattle.dd_names.specs.declared.object_name.ObjectKey.{ObjectKey}
use Rattle.dd_names.specs.contracts.object_name.ObjectKeyOrd.TheImpl as key_ord
use Rattle.dd_catalog.specs.declared.object.Object.{Object}
use Rattle.shared_cache.specs.declared.slots.Slot.{Slot}
use Rattle.shared_cache.specs.declared.slots.Slot.TheVariants.{Room, Listed}

-- by the kind of the keys, and then by their names
abbrev pub key_cmp : ObjectKey → ObjectKey → Ordering
key_cmp = (key_ord.ghosts).cmp

-- two keys are one
abbrev pub same_key : ObjectKey → ObjectKey → Bool
same_key key other = is_eq (key_cmp key other)

-- what stands at the keys, the keys of the unused objects from the front, and how many of these there may be
pub record Cache : Type 0 where
  pub slots : List (ObjectKey × Slot)
  pub unused : List ObjectKey
  pub capacity : ℕ

abbrev pub slot_at : List (ObjectKey × Slot) → ObjectKey → Option Slot
slot_at slots key = lookup (is_at (key_cmp key)) slots

abbrev pub object_in : Option Slot → Option Object
object_in (Some (Listed object uses)) = Some (arc_value object)
object_in (Some (Room by)) = None
object_in None = None

abbrev pub uses_in : Option Slot → ℕ
uses_in (Some (Listed object uses)) = uses
uses_in (Some (Room by)) = 0
uses_in None = 0

abbrev pub loader_in : Option Slot → Option ℕ
loader_in (Some (Listed object uses)) = None
loader_in (Some (Room by)) = Some by
loader_in None = None

-- the object that is listed at the key
abbrev pub listed : Cache → ObjectKey → Option Object
listed cache key = object_in (slot_at cache.slots key)

-- how many uses it has; none, where no object is listed
abbrev pub uses : Cache → ObjectKey → ℕ
uses cache key = uses_in (slot_at cache.slots key)

-- the session that has a ticket for the key
abbrev pub loader : Cache → ObjectKey → Option ℕ
loader cache key = loader_in (slot_at cache.slots key)

-- the key is one of these
abbrev pub among : List ObjectKey → ObjectKey → Bool
among keys key = list_any (λ other. same_key other key) keys

-- the keys but this one
abbrev pub without : ObjectKey → List ObjectKey → List ObjectKey
without key keys = filter (λ other. not (same_key key other)) keys

-- the unused keys are those at which an object without use is listed, and there aren't too many
pub record IsSound (cache : Cache) : Type 0 where
  pub idle : (key : ObjectKey) → among cache.unused key ≡ (is_some (listed cache key) && (uses cache key == 0))
  pub fits : length cache.unused ≤ cache.capacity
