-- What the fields of a cache say.
use Rattle.std.specs.Prelude.{ℕ, ◌≡◌, ◌-◌, ◌^◌, Bool, Option, None, List, cond}
use Rattle.std.specs.Map.{keys_of}
use Rattle.std.specs.BTreeMap.{BTreeMap}
use Rattle.lru.specs.LruCache.{LruCache}
use Rattle.dd_names.specs.declared.object_name.ObjectKey.{ObjectKey}
use Rattle.dd_names.specs.contracts.object_name.ObjectKeyPartialEq.TheImpl as key_equal
use Rattle.shared_cache.specs.declared.slots.Slot.{Slot}
use Rattle.shared_cache.specs.State.{Cache, IsSound, same_key, slot_at, among}

abbrev pub Slots : Type 0
Slots = BTreeMap ObjectKey Slot

abbrev pub Unused : Type 0
Unused = LruCache ObjectKey (Unit {0})

-- the keys of the unused objects are in a list that has no bound of its own
abbrev pub cache_of : Slots → Unused → ℕ → Cache
cache_of slots unused capacity = record { slots = slots.entries; unused = keys_of unused.entries; capacity = capacity }

pub record AreSound (slots : Slots) (unused : Unused) (capacity : ℕ) : Type 0 where
  pub sound : IsSound (cache_of slots unused capacity)
  pub unbounded : unused.cap ≡ 2 ^ 64 - 1

-- this stands at the key now, and at other keys what stood there
abbrev pub IsSlot : Slots → Slots → ObjectKey → Option Slot → Type 0
IsSlot old new key slot = (other : ObjectKey) → slot_at new.entries other ≡ cond (same_key key other) slot (slot_at old.entries other)

-- nothing stands at these keys now, and at other keys what stood there
abbrev pub HaveLeft : Slots → Slots → List ObjectKey → Type 0
HaveLeft old new keys = (other : ObjectKey) → slot_at new.entries other ≡ cond (among keys other) None (slot_at old.entries other)

abbrev pub key_eq : ObjectKey → ObjectKey → Bool
key_eq = (key_equal.ghosts).eq

-- the same stands at each key
abbrev pub AreSlots : Slots → Slots → Type 0
AreSlots old new = (other : ObjectKey) → slot_at new.entries other ≡ slot_at old.entries other
