-- What calls leave, by what stands at the keys.
use Rattle.std.proofs.Common.{◌≡◌, ℕ, ◌≤◌, Bool, true, false, cond, List, length, ◌&&◌, refl, sym, ◌∙◌, ap, subst, arith}
use Rattle.std.specs.Prelude.{Option, Some, None, is_some, ◌==◌}
use Rattle.std.specs.Map.{keys_of}
use Rattle.dd_names.specs.declared.object_name.ObjectKey.{ObjectKey}
use Rattle.shared_cache.specs.declared.slots.Slot.{Slot}
use Rattle.shared_cache.specs.declared.slots.Slot.TheVariants.{Room, Listed}
use Rattle.shared_cache.specs.State.{same_key, slot_at, object_in, uses_in, loader_in, among, without}
use Rattle.shared_cache.specs.Fields.{Slots, Unused, cache_of, AreSound, IsSlot, AreSlots}
use Rattle.shared_cache.specs.Calls.{IsAt, IsSame}
use Rattle.shared_cache.proofs.Keys.{one, among-without, fewer}

-- an object without use is listed there
abbrev pub idle_in : Option Slot → Bool
idle_in slot = is_some (object_in slot) && (uses_in slot == 0)

pub through : {X Y : Type 0} (f : X → Y) (b : Bool) (x y : X) → f (cond b x y) ≡ cond b (f x) (f y)
through f true x y = refl
through f false x y = refl

-- what the slots say of one key is what a call leaves there
pub is_at : (old new : Slots) (before after : Unused) (capacity : ℕ) (key : ObjectKey) (slot : Option Slot) (keys : List ObjectKey)
    → IsSlot old new key slot → keys_of after.entries ≡ keys → IsAt (cache_of old before capacity) (cache_of new after capacity) key (object_in slot) (uses_in slot) (loader_in slot) keys
is_at old new before after capacity key slot keys is rests = record {
  objects = λ other. ap object_in (is other) ∙ through object_in (same_key key other) slot (slot_at old.entries other);
  counts = λ other. ap uses_in (is other) ∙ through uses_in (same_key key other) slot (slot_at old.entries other);
  loaders = λ other. ap loader_in (is other) ∙ through loader_in (same_key key other) slot (slot_at old.entries other);
  rests = rests;
  capacity = refl;
}

pub is_same : (old new : Slots) (before after : Unused) (capacity : ℕ) → AreSlots old new → after ≡ before → IsSame (cache_of old before capacity) (cache_of new after capacity)
is_same old new before after capacity are same = record {
  objects = λ other. ap object_in (are other);
  counts = λ other. ap uses_in (are other);
  loaders = λ other. ap loader_in (are other);
  rests = ap (λ u. keys_of u.entries) same;
  capacity = refl;
}

-- ## The unused keys stay those of the objects without use

idle_now : (old new : Slots) (key : ObjectKey) (slot : Option Slot) → IsSlot old new key slot → idle_in slot ≡ false
    → (other : ObjectKey) → idle_in (slot_at new.entries other) ≡ cond (same_key key other) false (idle_in (slot_at old.entries other))
idle_now old new key slot is busy other =
    ap idle_in (is other) ∙ through idle_in (same_key key other) slot (slot_at old.entries other)
    ∙ ap (λ b. cond (same_key key other) b (idle_in (slot_at old.entries other))) busy

-- a key that wasn't unused and isn't
pub stays_sound : (old new : Slots) (before after : Unused) (capacity : ℕ) (key : ObjectKey) (slot : Option Slot)
    → AreSound old before capacity → IsSlot old new key slot → idle_in (slot_at old.entries key) ≡ false → idle_in slot ≡ false
    → keys_of after.entries ≡ keys_of before.entries → after.cap ≡ before.cap → AreSound new after capacity
stays_sound old new before after capacity key slot sound is was busy same cap = record {
  sound = record {
    idle = λ other. ap (λ keys. among keys other) same ∙ on other (same_key key other) refl;
    fits = subst (λ keys. length keys ≤ capacity) (sym same) sound.sound.fits;
  };
  unbounded = cap ∙ sound.unbounded;
}
  where
    on : (other : ObjectKey) (b : Bool) → same_key key other ≡ b → among (keys_of before.entries) other ≡ idle_in (slot_at new.entries other)
    on other true same = sound.sound.idle other ∙ ap (λ k. idle_in (slot_at old.entries k)) (sym (one key other same)) ∙ was
        ∙ sym (idle_now old new key slot is busy other ∙ ap (λ b. cond b false (idle_in (slot_at old.entries other))) same)
    on other false same = sound.sound.idle other ∙ sym (idle_now old new key slot is busy other ∙ ap (λ b. cond b false (idle_in (slot_at old.entries other))) same)

-- a key that isn't unused any more
pub taken_sound : (old new : Slots) (before after : Unused) (capacity : ℕ) (key : ObjectKey) (slot : Option Slot)
    → AreSound old before capacity → IsSlot old new key slot → idle_in slot ≡ false
    → keys_of after.entries ≡ without key (keys_of before.entries) → after.cap ≡ before.cap → AreSound new after capacity
taken_sound old new before after capacity key slot sound is busy taken cap = record {
  sound = record {
    idle = λ other. ap (λ keys. among keys other) taken ∙ among-without key (keys_of before.entries) other
        ∙ ap (λ b. cond (same_key key other) false b) (sound.sound.idle other) ∙ sym (idle_now old new key slot is busy other);
    fits = subst (λ keys. length keys ≤ capacity) (sym taken) (at_most (fewer key (keys_of before.entries)) sound.sound.fits);
  };
  unbounded = cap ∙ sound.unbounded;
}
  where
    at_most : {a b c : ℕ} → a ≤ b → b ≤ c → a ≤ c
    at_most le le' = omega (arith, le, le')

-- all stays
pub same_sound : (old new : Slots) (before after : Unused) (capacity : ℕ) → AreSound old before capacity → AreSlots old new → after ≡ before → AreSound new after capacity
same_sound old new before after capacity sound are same = record {
  sound = record {
    idle = λ other. ap (λ u. among (keys_of u.entries) other) same ∙ sound.sound.idle other ∙ sym (ap idle_in (are other));
    fits = subst (λ u. length (keys_of u.entries) ≤ capacity) (sym same) sound.sound.fits;
  };
  unbounded = ap (λ u. u.cap) same ∙ sound.unbounded;
}

no_room : (slot : Option Slot) (session : ℕ) → loader_in slot ≡ Some session → idle_in slot ≡ false
no_room None session is = refl
no_room (Some (Room by)) session is = refl
no_room (Some (Listed object uses)) session is = absurd cc

-- a key that was loaded
pub loaded_sound : (old new : Slots) (unused : Unused) (capacity : ℕ) (key : ObjectKey) (session : ℕ) (slot : Option Slot)
    → AreSound old unused capacity → IsSlot old new key slot → loader_in (slot_at old.entries key) ≡ Some session → idle_in slot ≡ false → AreSound new unused capacity
loaded_sound old new unused capacity key session slot sound is loads busy =
    stays_sound old new unused unused capacity key slot sound is (no_room (slot_at old.entries key) session loads) busy refl refl
