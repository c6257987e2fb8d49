-- How uses begin and end at a slot.
use Rattle.std.specs.Prelude.{ℕ, ◌≡◌, ◌+◌, ◌-◌, ◌⊎◌, ◌∷◌, take, drop, Some, None}
use Rattle.std.specs.Arc.{arc_value}
use Rattle.std.specs.Map.{keys_of}
use Rattle.dd_names.specs.declared.object_name.ObjectKey.{ObjectKey}
use Rattle.shared_cache.specs.declared.slots.Seen.{Seen}
use Rattle.shared_cache.specs.declared.slots.Seen.TheVariants.{Hit, Loading}
use Rattle.shared_cache.specs.declared.slots.Slot.{Slot}
use Rattle.shared_cache.specs.declared.slots.Slot.TheVariants.{Room, Listed}
use Rattle.shared_cache.specs.declared.found.Found.{Found}
use Rattle.shared_cache.specs.declared.found.Found.TheVariants as found
use Rattle.shared_cache.specs.State.{slot_at, without}
use Rattle.shared_cache.specs.Fields.{Slots, Unused, AreSlots, IsSlot, HaveLeft}

-- the slot with one use less
abbrev pub one_less : Slot → Slot
one_less (Listed object uses) = Listed object (uses - 1)
one_less (Room by) = Room by

-- the object that is listed has one use more; or a session loads it, and nothing changes
abbrev pub is_used : Seen → Slot → Slot → Type 0
is_used (Hit hit) (Listed object uses) new = (new ≡ Listed object (uses + 1)) × (arc_value hit ≡ arc_value object)
is_used (Loading by) (Room session) new = (new ≡ Room session) × (by ≡ session)
is_used (Hit hit) (Room session) new = ⊥
is_used (Loading by) (Listed object uses) new = ⊥

-- the object that is listed at the key has one use more, and is not unused
pub record IsHit (is_used : Slot → Slot → Type 0) (old new : Slots) (before after : Unused) (key : ObjectKey) : Type 0 where
  pub slot : Slot
  pub was : slot_at old.entries key ≡ Some slot
  pub now : Slot
  pub used : is_used slot now
  pub is : IsSlot old new key (Some now)
  pub unused : keys_of after.entries ≡ without key (keys_of before.entries)

-- what is found by the slots
abbrev pub found_in : Found → Slots → Slots → Unused → Unused → ObjectKey → ℕ → Type 0
found_in (found.Hit hit) old new before after key session = IsHit (is_used (Hit hit)) old new before after key
found_in (found.Loading by) old new before after key session = (slot_at old.entries key ≡ Some (Room by)) × AreSlots old new × (after ≡ before)
found_in (found.Miss ticket) old new before after key session =
    (slot_at old.entries key ≡ None) × (ticket ≡ record { key = key; session = session }) × IsSlot old new key (Some (Room session)) × (after ≡ before)

-- what is found in one slot
abbrev pub used_in : Found → Slot → Slot → Unused → Unused → ObjectKey → Type 0
used_in (found.Hit hit) old new before after key = is_used (Hit hit) old new × (keys_of after.entries ≡ without key (keys_of before.entries))
used_in (found.Loading by) old new before after key = is_used (Loading by) old new × (after ≡ before)
used_in (found.Miss ticket) old new before after key = ⊥

-- a key without use is the first of the unused, and those beyond the capacity have left; or it has left itself
abbrev pub has_rested : Slots → Slots → Unused → Unused → ℕ → ObjectKey → Type 0
has_rested old new before after capacity key =
    ((keys_of after.entries ≡ take capacity (key ∷ keys_of before.entries)) × HaveLeft old new (drop capacity (key ∷ keys_of before.entries)))
    ⊎ ((keys_of after.entries ≡ keys_of before.entries) × IsSlot old new key None)
