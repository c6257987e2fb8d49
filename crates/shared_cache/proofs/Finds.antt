-- What a look finds in the slots, and what it leaves.
use Rattle.std.proofs.Common.{◌≡◌, ◌≢◌, ℕ, ◌+◌, Bool, true, false, cond, refl, sym, ◌∙◌, ap, subst, arith}
use Rattle.std.specs.Prelude.{Option, Some, None, Result, Ok, Err, IfOk, OnErr}
use Rattle.std.proofs.lemmas.Bool.{ne_eqb}
use Rattle.std.specs.Option.{option_map}
use Rattle.std.specs.Arc.{arc_value}
use Rattle.std.specs.Map.{keys_of}
use Rattle.dd_names.specs.declared.object_name.ObjectKey.{ObjectKey}
use Rattle.shared_cache.specs.declared.found.Found.{Found}
use Rattle.shared_cache.specs.declared.found.Found.TheVariants.{Hit, Loading, Miss}
use Rattle.shared_cache.specs.declared.slots.Seen.TheVariants as seen
use Rattle.shared_cache.specs.declared.slots.Slot.{Slot}
use Rattle.shared_cache.specs.declared.slots.Slot.TheVariants.{Room, Listed}
use Rattle.shared_cache.specs.State.{same_key, slot_at, object_in, uses_in, loader_in, loader, uses, without}
use Rattle.shared_cache.specs.Fields.{Slots, Unused, cache_of, AreSound, IsSlot, AreSlots}
use Rattle.shared_cache.specs.Uses.{one_less, is_used, used_in, found_in}
use Rattle.shared_cache.specs.Calls.{IsAt, IsSame, found_told, found_after}
use Rattle.shared_cache.proofs.Keys.{one}
use Rattle.shared_cache.proofs.Sound.{is_at, is_same, idle_in, taken_sound, stays_sound, same_sound}

-- what is put back at its key changes nothing
pub put_back : (old new : Slots) (key : ObjectKey) → IsSlot old new key (slot_at old.entries key) → AreSlots old new
put_back old new key is other = on (same_key key other) refl
  where
    on : (b : Bool) → same_key key other ≡ b → slot_at new.entries other ≡ slot_at old.entries other
    on true same = is other ∙ ap (λ b. cond b (slot_at old.entries key) (slot_at old.entries other)) same ∙ ap (λ k. slot_at old.entries k) (one key other same)
    on false same = is other ∙ ap (λ b. cond b (slot_at old.entries key) (slot_at old.entries other)) same

-- where nothing stands no use ends
pub none_ends : (old new : Slots) (key : ObjectKey) → None ≡ slot_at old.entries key → new ≡ old → IsSlot old new key (option_map one_less (slot_at old.entries key))
none_ends old new key none same other =
    ap (λ (slots : Slots). slot_at slots.entries other) same
    ∙ sym (put_back_at (slot_at old.entries key) none)
  where
    kept : (b : Bool) → same_key key other ≡ b → cond b None (slot_at old.entries other) ≡ slot_at old.entries other
    kept true same = none ∙ ap (λ k. slot_at old.entries k) (one key other same)
    kept false same = refl

    put_back_at : (slot : Option Slot) → None ≡ slot → cond (same_key key other) (option_map one_less slot) (slot_at old.entries other) ≡ slot_at old.entries other
    put_back_at None is = kept (same_key key other) refl
    put_back_at (Some slot) is = absurd cc

-- ## From one slot to all

of_slot : (found : Found) (old new : Slots) (before after : Unused) (key : ObjectKey) (session : ℕ) (slot now : Slot) → slot_at old.entries key ≡ Some slot → IsSlot old new key (Some now)
    → used_in found slot now before after key → found_in found old new before after key session
of_slot (Hit hit) old new before after key session slot now was is used = record { slot = slot; was = was; now = now; used = used.0; is = is; unused = used.1 }
of_slot (Loading by) old new before after key session (Room session') now was is used =
    (was ∙ ap (λ s. Some (Room s)) (sym used.0.1), put_back old new key (subst (IsSlot old new key) (ap Some used.0.0 ∙ sym was) is), used.1)
of_slot (Loading by) old new before after key session (Listed object uses) now was is used = absurd used.0
of_slot (Miss ticket) old new before after key session slot now was is used = absurd used

pub all_of_slot : {E : Type 0} (r : Result Found E) (old new : Slots) (before after : Unused) (key : ObjectKey) (session : ℕ) (slot now : Slot) → Some slot ≡ slot_at old.entries key → IsSlot old new key (Some now)
    → IfOk r (λ found. used_in found slot now before after key) → IfOk r (λ found. found_in found old new before after key session)
all_of_slot (Ok found) old new before after key session slot now was is used = of_slot found old new before after key session slot now (sym was) is used
all_of_slot (Err e) old new before after key session slot now was is used = tt

pub none_of_slot : {E : Type 0} (r : Result Found E) (old new : Slots) (before after : Unused) (key : ObjectKey) (slot now : Slot) → Some slot ≡ slot_at old.entries key → IsSlot old new key (Some now)
    → OnErr r ((now ≡ slot) × (after ≡ before)) → OnErr r (AreSlots old new × (after ≡ before))
none_of_slot (Ok found) old new before after key slot now was is same = tt
none_of_slot (Err e) old new before after key slot now was is same = (put_back old new key (subst (IsSlot old new key) (ap Some same.0 ∙ was) is), same.1)

-- ## From the slots to the words of contracts

hit_told : (hit : _) (slot now : Slot) → is_used (seen.Hit hit) slot now → object_in (Some slot) ≡ Some (arc_value hit)
hit_told hit (Listed object uses) now used = ap Some (sym used.1)
hit_told hit (Room by) now used = absurd used

hit_uses : (hit : _) (slot now : Slot) → is_used (seen.Hit hit) slot now → (object_in (Some now) ≡ object_in (Some slot)) × (uses_in (Some now) ≡ uses_in (Some slot) + 1) × (loader_in (Some now) ≡ None)
hit_uses hit (Listed object uses) now used = (ap (λ s. object_in (Some s)) used.0, ap (λ s. uses_in (Some s)) used.0, ap (λ s. loader_in (Some s)) used.0)
hit_uses hit (Room by) now used = absurd used

told : (found : Found) (old new : Slots) (before after : Unused) (capacity : ℕ) (key : ObjectKey) (session : ℕ) → loader (cache_of old before capacity) key ≢ Some session
    → found_in found old new before after key session → found_told found (cache_of old before capacity) key session
told (Hit hit) old new before after capacity key session once found = ap object_in found.was ∙ hit_told hit found.slot found.now found.used
told (Loading by) old new before after capacity key session once found =
    (ap object_in found.0, ap loader_in found.0, λ same. once (ap loader_in found.0 ∙ ap Some same))
told (Miss ticket) old new before after capacity key session once found = (ap object_in found.0, ap loader_in found.0, found.1)

left : (found : Found) (old new : Slots) (before after : Unused) (capacity : ℕ) (key : ObjectKey) (session : ℕ) → found_in found old new before after key session
    → found_after found (cache_of old before capacity) (cache_of new after capacity) key session
left (Hit hit) old new before after capacity key session found =
    let used = hit_uses hit found.slot found.now found.used in
    subst (λ object. IsAt (cache_of old before capacity) (cache_of new after capacity) key object (uses (cache_of old before capacity) key + 1) None (without key (keys_of before.entries))) (used.0 ∙ sym (ap object_in found.was))
    (subst (λ count. IsAt (cache_of old before capacity) (cache_of new after capacity) key (object_in (Some found.now)) count None (without key (keys_of before.entries))) (used.1 ∙ ap (λ s. uses_in s + 1) (sym found.was))
    (subst (λ session. IsAt (cache_of old before capacity) (cache_of new after capacity) key (object_in (Some found.now)) (uses_in (Some found.now)) session (without key (keys_of before.entries))) used.2
    (is_at old new before after capacity key (Some found.now) (without key (keys_of before.entries)) found.is found.unused)))
left (Loading by) old new before after capacity key session found = is_same old new before after capacity found.1 found.2
left (Miss ticket) old new before after capacity key session found =
    is_at old new before after capacity key (Some (Room session)) (keys_of before.entries) found.2 (ap (λ (u : Unused). keys_of u.entries) found.3)

pub all_told : {E : Type 0} (r : Result Found E) (old new : Slots) (before after : Unused) (capacity : ℕ) (key : ObjectKey) (session : ℕ) → loader (cache_of old before capacity) key ≢ Some session
    → IfOk r (λ found. found_in found old new before after key session) → IfOk r (λ found. found_told found (cache_of old before capacity) key session)
all_told (Ok found) old new before after capacity key session once is = told found old new before after capacity key session once is
all_told (Err e) old new before after capacity key session once is = tt

pub all_left : {E : Type 0} (r : Result Found E) (old new : Slots) (before after : Unused) (capacity : ℕ) (key : ObjectKey) (session : ℕ)
    → IfOk r (λ found. found_in found old new before after key session) → IfOk r (λ found. found_after found (cache_of old before capacity) (cache_of new after capacity) key session)
all_left (Ok found) old new before after capacity key session is = left found old new before after capacity key session is
all_left (Err e) old new before after capacity key session is = tt

pub none_left : {E : Type 0} (r : Result Found E) (old new : Slots) (before after : Unused) (capacity : ℕ)
    → OnErr r (AreSlots old new × (after ≡ before)) → OnErr r (IsSame (cache_of old before capacity) (cache_of new after capacity))
none_left (Ok found) old new before after capacity same = tt
none_left (Err e) old new before after capacity same = is_same old new before after capacity same.0 same.1

busy : (hit : _) (slot now : Slot) → is_used (seen.Hit hit) slot now → idle_in (Some now) ≡ false
busy hit (Listed object uses) now used = ap (λ s. idle_in (Some s)) used.0 ∙ more uses
  where
    more : (n : ℕ) → idle_in (Some (Listed object (n + 1))) ≡ false
    more n = (ne_eqb (n + 1) 0 (λ e. omega (arith, e)))
busy hit (Room by) now used = absurd used

sound : (found : Found) (old new : Slots) (before after : Unused) (capacity : ℕ) (key : ObjectKey) (session : ℕ) → AreSound old before capacity → after.cap ≡ before.cap
    → found_in found old new before after key session → AreSound new after capacity
sound (Hit hit) old new before after capacity key session was cap found =
    taken_sound old new before after capacity key (Some found.now) was found.is (busy hit found.slot found.now found.used) found.unused cap
sound (Loading by) old new before after capacity key session was cap found = same_sound old new before after capacity was found.1 found.2
sound (Miss ticket) old new before after capacity key session was cap found =
    stays_sound old new before after capacity key (Some (Room session)) was found.2 (ap idle_in found.0) refl (ap (λ (u : Unused). keys_of u.entries) found.3) cap

pub all_sound : {E : Type 0} (r : Result Found E) (old new : Slots) (before after : Unused) (capacity : ℕ) (key : ObjectKey) (session : ℕ) → AreSound old before capacity → after.cap ≡ before.cap
    → IfOk r (λ found. found_in found old new before after key session) → OnErr r (AreSlots old new × (after ≡ before)) → AreSound new after capacity
all_sound (Ok found) old new before after capacity key session was cap is same = sound found old new before after capacity key session was cap is
all_sound (Err e) old new before after capacity key session was cap is same = same_sound old new before after capacity was same.0 same.1
