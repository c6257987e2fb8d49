-- What the end of a use leaves, and what is left when a key is taken away.
use Rattle.std.proofs.Common.{◌≡◌, ℕ, zero, suc, ◌-◌, ◌<◌, ◌≤◌, Bool, true, false, cond, List, [], ◌∷◌, length, take, drop, ◌||◌, inl, inr, refl, sym, ◌∙◌, ap, subst, arith}
use Rattle.std.specs.Prelude.{Option, Some, None, IsSome, is_some, ◌==◌}
use Rattle.std.specs.Option.{option_map}
use Rattle.std.specs.List.{IsDistinct}
use Rattle.std.specs.Map.{keys_of}
use Rattle.std.specs.Arc.{arc_value}
use Rattle.std.proofs.lemmas.Bool.{true≢false, eqb-true, ne_eqb}
use Rattle.dd_names.specs.declared.object_name.ObjectKey.{ObjectKey}
use Rattle.dd_catalog.specs.declared.object.Object.{Object}
use Rattle.shared_cache.specs.declared.slots.Slot.{Slot}
use Rattle.shared_cache.specs.declared.slots.Slot.TheVariants.{Room, Listed}
use Rattle.shared_cache.specs.State.{same_key, slot_at, object_in, uses_in, loader_in, loader, listed, uses, among, without}
use Rattle.shared_cache.specs.Fields.{Slots, Unused, cache_of, AreSound, IsSlot, HaveLeft, key_eq}
use Rattle.shared_cache.specs.Uses.{one_less, has_rested}
use Rattle.shared_cache.specs.Calls.{IsAt, Rests, use_ended}
use Rattle.shared_cache.proofs.Keys.{one, among-take, apart_from, unchanged}
use Rattle.shared_cache.proofs.Sound.{is_at, is_same, idle_in, stays_sound, through}
use Rattle.shared_cache.proofs.Finds.{put_back}

-- ## A key that is taken away

free : (slot : Option Slot) → is_some (object_in slot) ≡ true → loader_in slot ≡ None
free None listed = refl
free (Some (Room by)) listed = absurd (true≢false (sym listed))
free (Some (Listed object uses)) listed = refl

nothing : (slot : Option Slot) → is_some (object_in slot) ≡ false → (object_in slot ≡ None) × (uses_in slot ≡ 0) × (idle_in slot ≡ false)
nothing None none = (refl, refl, refl)
nothing (Some (Room by)) none = (refl, refl, refl)
nothing (Some (Listed object uses)) none = absurd (true≢false none)

pub taken : (old new : Slots) (before after : Unused) (capacity : ℕ) (key : ObjectKey) → is_some (object_in (slot_at old.entries key)) ≡ true → IsSlot old new key None
    → keys_of after.entries ≡ without key (keys_of before.entries)
    → IsAt (cache_of old before capacity) (cache_of new after capacity) key None 0 (loader (cache_of old before capacity) key) (without key (keys_of before.entries))
taken old new before after capacity key some is rests =
    subst (λ session. IsAt (cache_of old before capacity) (cache_of new after capacity) key None 0 session (without key (keys_of before.entries))) (sym (free (slot_at old.entries key) some))
    (is_at old new before after capacity key None (without key (keys_of before.entries)) is rests)

pub not_taken : (old : Slots) (unused : Unused) (capacity : ℕ) (key : ObjectKey) → AreSound old unused capacity → is_some (object_in (slot_at old.entries key)) ≡ false
    → IsAt (cache_of old unused capacity) (cache_of old unused capacity) key None 0 (loader (cache_of old unused capacity) key) (without key (keys_of unused.entries))
not_taken old unused capacity key sound none = record {
  objects = λ other. at object_in other None is.0;
  counts = λ other. at uses_in other 0 is.1;
  loaders = λ other. at loader_in other (loader_in (slot_at old.entries key)) refl;
  rests = sym (unchanged key (keys_of unused.entries) (apart_from key (keys_of unused.entries) (sound.sound.idle key ∙ is.2)));
  capacity = refl;
}
  where
    is : (object_in (slot_at old.entries key) ≡ None) × (uses_in (slot_at old.entries key) ≡ 0) × (idle_in (slot_at old.entries key) ≡ false)
    is = nothing (slot_at old.entries key) none

    at : {X : Type 0} (f : Option Slot → X) (other : ObjectKey) (x : X) → f (slot_at old.entries key) ≡ x → f (slot_at old.entries other) ≡ cond (same_key key other) x (f (slot_at old.entries other))
    at f other x e = on (same_key key other) refl
      where
        on : (b : Bool) → same_key key other ≡ b → f (slot_at old.entries other) ≡ cond b x (f (slot_at old.entries other))
        on true same = ap (λ k. f (slot_at old.entries k)) (sym (one key other same)) ∙ e
        on false same = refl

-- ## A use ends, and others are left

one_of : (left : ℕ) → suc (suc left) - 1 ≡ suc left
one_of left = omega arith

not_zero : (n : ℕ) → (suc n == 0) ≡ false
not_zero n = ne_eqb (suc n) 0 (λ e. omega (arith, e))

never : (n : ℕ) → (true ≡ true → 0 < n) → n ≡ 0 → ⊥
never n some none = omega (arith, some refl, none)

pub more_left : (old new : Slots) (unused : Unused) (capacity : ℕ) (key : ObjectKey) (slot : Option Slot) → slot ≡ slot_at old.entries key
    → (IsSome (object_in slot) → 0 < uses_in slot) → (uses_in slot == 1) ≡ false → IsSlot old new key (option_map one_less slot)
    → use_ended (uses_in slot) (cache_of old unused capacity) (cache_of new unused capacity) key
more_left old new unused capacity key None is some last ended = is_same old new unused unused capacity (put_back old new key (subst (IsSlot old new key) is ended)) refl
more_left old new unused capacity key (Some (Room by)) is some last ended = is_same old new unused unused capacity (put_back old new key (subst (IsSlot old new key) is ended)) refl
more_left old new unused capacity key (Some (Listed object zero)) is some last ended = absurd (never 0 some refl)
more_left old new unused capacity key (Some (Listed object (suc zero))) is some last ended = absurd (true≢false last)
more_left old new unused capacity key (Some (Listed object (suc (suc left)))) is some last ended =
    subst (λ found. IsAt (cache_of old unused capacity) (cache_of new unused capacity) key found (suc left) None (keys_of unused.entries)) (ap object_in is)
    (is_at old new unused unused capacity key (Some (Listed object (suc left))) (keys_of unused.entries) (subst (λ n. IsSlot old new key (Some (Listed object n))) (one_of left) ended) refl)

busy : (slot : Option Slot) → (IsSome (object_in slot) → 0 < uses_in slot) → idle_in slot ≡ false
busy None some = refl
busy (Some (Room by)) some = refl
busy (Some (Listed object zero)) some = absurd (never 0 some refl)
busy (Some (Listed object (suc n))) some = not_zero n

still_busy : (slot : Option Slot) → (IsSome (object_in slot) → 0 < uses_in slot) → (uses_in slot == 1) ≡ false → idle_in (option_map one_less slot) ≡ false
still_busy None some last = refl
still_busy (Some (Room by)) some last = refl
still_busy (Some (Listed object zero)) some last = absurd (never 0 some refl)
still_busy (Some (Listed object (suc zero))) some last = absurd (true≢false last)
still_busy (Some (Listed object (suc (suc left)))) some last = ap (λ n. idle_in (Some (Listed object n))) (one_of left) ∙ not_zero left

pub more_left_sound : (old new : Slots) (unused : Unused) (capacity : ℕ) (key : ObjectKey) → AreSound old unused capacity
    → (IsSome (object_in (slot_at old.entries key)) → 0 < uses_in (slot_at old.entries key)) → (uses_in (slot_at old.entries key) == 1) ≡ false
    → IsSlot old new key (option_map one_less (slot_at old.entries key)) → AreSound new unused capacity
more_left_sound old new unused capacity key sound some last ended =
    stays_sound old new unused unused capacity key (option_map one_less (slot_at old.entries key)) sound ended
    (busy (slot_at old.entries key) some) (still_busy (slot_at old.entries key) some last) refl refl

-- ## The last use ends

-- what was listed with one use
pub record WasLast (slot : Option Slot) : Type 0 where
  pub object : Option Object
  pub is : object_in slot ≡ object
  pub uses : uses_in slot ≡ 1
  pub free : loader_in slot ≡ None
  pub found : object_in (option_map one_less slot) ≡ object
  pub none : uses_in (option_map one_less slot) ≡ 0
  pub unloaded : loader_in (option_map one_less slot) ≡ None
  pub busy : idle_in slot ≡ false
  pub idle : idle_in (option_map one_less slot) ≡ true

pub was_last : (slot : Option Slot) → (uses_in slot == 1) ≡ true → WasLast slot
was_last None last = absurd (true≢false (sym last))
was_last (Some (Room by)) last = absurd (true≢false (sym last))
was_last (Some (Listed object n)) last = record {
  object = Some (arc_value object);
  is = refl;
  uses = eqb-true n 1 last;
  free = refl;
  found = refl;
  none = ap (λ n. n - 1) (eqb-true n 1 last);
  unloaded = refl;
  busy = ap (λ n. idle_in (Some (Listed object n))) (eqb-true n 1 last);
  idle = ap (λ n. idle_in (Some (Listed object (n - 1)))) (eqb-true n 1 last);
}

among-drop : (n : ℕ) (keys : List ObjectKey) (other : ObjectKey) → among (drop n keys) other ≡ true → among keys other ≡ true
among-drop zero keys other is = is
among-drop (suc n) [] other is = is
among-drop (suc n) (k ∷ keys) other is = later (same_key k other) (among-drop n keys other is)
  where
    later : (b : Bool) → among keys other ≡ true → (b || among keys other) ≡ true
    later true is = refl
    later false is = is

no_longer : (n : ℕ) (keys : List ObjectKey) → length (take n keys) ≤ n
no_longer zero keys = omega arith
no_longer (suc n) [] = omega arith
no_longer (suc n) (k ∷ keys) = let le = no_longer n keys in omega (arith, le)

-- what is the same of the keys that leave
module _ {X : Type 0} (f : Option Slot → X) (x : X) (key other : ObjectKey) (D : Bool) (slot was : Option Slot)
    (none : f None ≡ x) (idle : D ≡ true → same_key key other ≡ false → f was ≡ x) (put : f slot ≡ x) where
  gone : f (cond D None (cond (same_key key other) slot was)) ≡ cond (same_key key other) x (f was)
  gone = on D (same_key key other) refl refl
    where
      on : (d s : Bool) → D ≡ d → same_key key other ≡ s → f (cond d None (cond s slot was)) ≡ cond s x (f was)
      on true true ds ss = none
      on true false ds ss = none ∙ sym (idle ds ss)
      on false true ds ss = put
      on false false ds ss = refl

idle_parts : (slot : Option Slot) → idle_in slot ≡ true → (uses_in slot ≡ 0) × (loader_in slot ≡ None)
idle_parts None idle = absurd (true≢false (sym idle))
idle_parts (Some (Room by)) idle = absurd (true≢false (sym idle))
idle_parts (Some (Listed object n)) idle = (eqb-true n 0 idle, refl)

-- a key that leaves and isn't the one whose use ended had none
leaves_idle : (old : Slots) (unused : Unused) (capacity : ℕ) (key : ObjectKey) → AreSound old unused capacity → (other : ObjectKey)
    → among (drop capacity (key ∷ keys_of unused.entries)) other ≡ true → same_key key other ≡ false → (uses_in (slot_at old.entries other) ≡ 0) × (loader_in (slot_at old.entries other) ≡ None)
leaves_idle old unused capacity key sound other leaves apart =
    let there : (same_key key other || among (keys_of unused.entries) other) ≡ true = among-drop capacity (key ∷ keys_of unused.entries) other leaves in
    idle_parts (slot_at old.entries other) (sym (sound.sound.idle other) ∙ sym (ap (λ b. b || among (keys_of unused.entries) other) apart) ∙ there)

module _ (old mid new : Slots) (before after : Unused) (capacity : ℕ) (key : ObjectKey) (sound : AreSound old before capacity) (last : WasLast (slot_at old.entries key))
    (ended : IsSlot old mid key (option_map one_less (slot_at old.entries key))) where
  abbrev ends : Option Slot
  ends = option_map one_less (slot_at old.entries key)

  abbrev leaves : ObjectKey → Bool
  leaves other = among (drop capacity (key ∷ keys_of before.entries)) other

  module _ (kept : keys_of after.entries ≡ take capacity (key ∷ keys_of before.entries)) (left : HaveLeft mid new (drop capacity (key ∷ keys_of before.entries))) where
    now : (other : ObjectKey) → slot_at new.entries other ≡ cond (leaves other) None (cond (same_key key other) ends (slot_at old.entries other))
    now other = left other ∙ ap (cond (leaves other) None) (ended other)

    of_key : {X : Type 0} (f : Option Slot → X) (other : ObjectKey) → f ends ≡ f (slot_at old.entries key) → f (cond (same_key key other) ends (slot_at old.entries other)) ≡ f (slot_at old.entries other)
    of_key f other e = on (same_key key other) refl
      where
        on : (b : Bool) → same_key key other ≡ b → f (cond b ends (slot_at old.entries other)) ≡ f (slot_at old.entries other)
        on true same = e ∙ ap (λ k. f (slot_at old.entries k)) (one key other same)
        on false same = refl

    object_now : (other : ObjectKey) → object_in (slot_at new.entries other) ≡ cond (leaves other) None (object_in (slot_at old.entries other))
    object_now other = ap object_in (now other) ∙ through object_in (leaves other) None (cond (same_key key other) ends (slot_at old.entries other))
        ∙ ap (cond (leaves other) None) (of_key object_in other (last.found ∙ sym last.is))

    uses_now : (other : ObjectKey) → uses_in (slot_at new.entries other) ≡ cond (same_key key other) 0 (uses_in (slot_at old.entries other))
    uses_now other = ap uses_in (now other)
        ∙ gone uses_in 0 key other (leaves other) ends (slot_at old.entries other) refl (λ is apart. (leaves_idle old before capacity key sound other is apart).0) last.none

    loader_now : (other : ObjectKey) → loader_in (slot_at new.entries other) ≡ loader_in (slot_at old.entries other)
    loader_now other = ap loader_in (now other)
        ∙ gone loader_in None key other (leaves other) ends (slot_at old.entries other) refl (λ is apart. (leaves_idle old before capacity key sound other is apart).1) last.unloaded
        ∙ on (same_key key other) refl
      where
        on : (b : Bool) → same_key key other ≡ b → cond b None (loader_in (slot_at old.entries other)) ≡ loader_in (slot_at old.entries other)
        on true same = sym last.free ∙ ap (λ k. loader_in (slot_at old.entries k)) (one key other same)
        on false same = refl

    rests : Rests (cache_of old before capacity) (cache_of new after capacity) key
    rests = record {
      objects = object_now;
      counts = uses_now;
      loaders = loader_now;
      rests = kept;
      capacity = refl;
    }

    module _ (apart : IsDistinct key_eq (key ∷ keys_of before.entries)) (cap : after.cap ≡ before.cap) where
      idle_now : (other : ObjectKey) → idle_in (slot_at new.entries other) ≡ cond (leaves other) false (same_key key other || among (keys_of before.entries) other)
      idle_now other = ap idle_in (now other) ∙ through idle_in (leaves other) None (cond (same_key key other) ends (slot_at old.entries other))
          ∙ ap (cond (leaves other) false) (through idle_in (same_key key other) ends (slot_at old.entries other) ∙ on (same_key key other))
        where
          on : (b : Bool) → cond b (idle_in ends) (idle_in (slot_at old.entries other)) ≡ (b || among (keys_of before.entries) other)
          on true = last.idle
          on false = sym (sound.sound.idle other)

      rests_sound : AreSound new after capacity
      rests_sound = record {
        sound = record {
          idle = λ other. ap (λ keys. among keys other) kept ∙ among-take capacity (key ∷ keys_of before.entries) apart other ∙ sym (idle_now other);
          fits = subst (λ keys. length keys ≤ capacity) (sym kept) (no_longer capacity (key ∷ keys_of before.entries));
        };
        unbounded = cap ∙ sound.unbounded;
      }

  module _ (same : keys_of after.entries ≡ keys_of before.entries) (left : IsSlot mid new key None) where
    nothing_now : IsSlot old new key None
    nothing_now other = left other ∙ ap (cond (same_key key other) None) (ended other) ∙ on (same_key key other)
      where
        on : (b : Bool) → cond b None (cond b ends (slot_at old.entries other)) ≡ cond b None (slot_at old.entries other)
        on true = refl
        on false = refl

    leaves_itself : IsAt (cache_of old before capacity) (cache_of new after capacity) key None 0 None (keys_of before.entries)
    leaves_itself = is_at old new before after capacity key None (keys_of before.entries) nothing_now same

    leaves_sound : after.cap ≡ before.cap → AreSound new after capacity
    leaves_sound cap = stays_sound old new before after capacity key None sound nothing_now last.busy refl same cap

pub last_left : (old mid new : Slots) (before after : Unused) (capacity : ℕ) (key : ObjectKey) → AreSound old before capacity → WasLast (slot_at old.entries key)
    → IsSlot old mid key (option_map one_less (slot_at old.entries key)) → has_rested mid new before after capacity key
    → use_ended (uses (cache_of old before capacity) key) (cache_of old before capacity) (cache_of new after capacity) key
last_left old mid new before after capacity key sound last ended (inl kept) =
    subst (λ count. use_ended count (cache_of old before capacity) (cache_of new after capacity) key) (sym last.uses) (inl (rests old mid new before after capacity key sound last ended kept.0 kept.1))
last_left old mid new before after capacity key sound last ended (inr left) =
    subst (λ count. use_ended count (cache_of old before capacity) (cache_of new after capacity) key) (sym last.uses) (inr (leaves_itself old mid new before after capacity key sound last ended left.0 left.1))

pub last_sound : (old mid new : Slots) (before after : Unused) (capacity : ℕ) (key : ObjectKey) → AreSound old before capacity → WasLast (slot_at old.entries key)
    → IsSlot old mid key (option_map one_less (slot_at old.entries key)) → IsDistinct key_eq (key ∷ keys_of before.entries) → after.cap ≡ before.cap → has_rested mid new before after capacity key
    → AreSound new after capacity
last_sound old mid new before after capacity key sound last ended apart cap (inl kept) = rests_sound old mid new before after capacity key sound last ended kept.0 kept.1 apart cap
last_sound old mid new before after capacity key sound last ended apart cap (inr left) = leaves_sound old mid new before after capacity key sound last ended left.0 left.1 cap
