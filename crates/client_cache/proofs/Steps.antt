-- Uses that end one after another.
use Rattle.std.proofs.Common.{◌≡◌, ℕ, zero, suc, ◌-◌, ◌<◌, Bool, true, false, cond, List, [], ◌∷◌, ◌++◌, drop, inl, inr, refl, sym, ◌∙◌, ap, subst, arith}
use Rattle.std.specs.Prelude.{Option, Some, None, IsSome, is_some, if◌then◌else◌}
use Rattle.std.specs.Option.{option_map}
use Rattle.std.specs.Map.{lookup}
use Rattle.std.proofs.lemmas.Bool.{true≢false}
use Rattle.dd_names.specs.declared.object_name.ObjectKey.{ObjectKey}
use Rattle.shared_cache.specs.declared.slots.Slot.{Slot}
use Rattle.shared_cache.specs.declared.slots.Slot.TheVariants.{Room, Listed}
use Rattle.shared_cache.specs.State.{Cache, same_key, slot_at, object_in, uses_in, loader_in, listed, uses, loader, among}
use Rattle.shared_cache.specs.Calls.{use_ended}
use Rattle.shared_cache.proofs.Keys.{one, itself, tied}
use Rattle.client_cache.specs.Registries.{is_key}
use Rattle.client_cache.specs.Cleared.{AreUsed, StaysOrLeft, ended, Released, AllReleased}

-- ## What is listed has uses

unlisted : (slot : Option Slot) → object_in slot ≡ None → uses_in slot ≡ 0
unlisted None none = refl
unlisted (Some (Room by)) none = refl
unlisted (Some (Listed object uses)) none = absurd cc

pub none_used : (cache : Cache) (key : ObjectKey) → listed cache key ≡ None → uses cache key ≡ 0
none_used cache key none = unlisted (slot_at cache.slots key) none

loaded : (slot : Option Slot) (n : ℕ) → uses_in slot ≡ suc n → loader_in slot ≡ None
loaded None n is = refl
loaded (Some (Room by)) n is = absurd cc
loaded (Some (Listed object uses)) n is = refl

-- ## One key

-- what the end of a use leaves at each key
pub record Ends (key : ObjectKey) (before after : Cache) : Type 0 where
  pub counts : (q : ObjectKey) → uses after q ≡ cond (same_key key q) (uses before key - 1) (uses before q)
  pub objects : (q : ObjectKey) → StaysOrLeft before after q
  pub loaders : (q : ObjectKey) → loader after q ≡ loader before q
  pub capacity : after.capacity ≡ before.capacity

left_by : (before after : Cache) (q : ObjectKey) (b : Bool) → listed after q ≡ cond b None (listed before q) → StaysOrLeft before after q
left_by before after q true is = inr (is, none_used after q is)
left_by before after q false is = inl is

-- what has changed at this key alone, and not there either, has not changed
alike : {X : Type 0} (f : ObjectKey → X) (x : X) (key q : ObjectKey) (b : Bool) → same_key key q ≡ b → x ≡ f key → cond b x (f q) ≡ f q
alike f x key q true same is = is ∙ ap f (one key q same)
alike f x key q false same is = refl

less_none : (n : ℕ) → n - 0 ≡ n
less_none n = omega arith

one_less : (n left : ℕ) → n ≡ suc (suc left) → suc left ≡ n - 1
one_less n left is = omega (arith, is)

pub ends : (n : ℕ) (key : ObjectKey) (before after : Cache) → uses before key ≡ n → use_ended n before after key → Ends key before after
ends zero key before after none same = record {
  counts = λ q. same.counts q ∙ sym (alike (uses before) (uses before key - 1) key q (same_key key q) refl (ap (λ n. n - 1) none ∙ sym none));
  objects = λ q. inl (same.objects q);
  loaders = same.loaders;
  capacity = same.capacity;
}
ends (suc zero) key before after last (inl rests) = record {
  counts = λ q. rests.counts q ∙ ap (λ n. cond (same_key key q) n (uses before q)) (sym (ap (λ n. n - 1) last));
  objects = λ q. left_by before after q (among (drop before.capacity (key ∷ before.unused)) q) (rests.objects q);
  loaders = rests.loaders;
  capacity = rests.capacity;
}
ends (suc zero) key before after last (inr gone) = record {
  counts = λ q. gone.counts q ∙ ap (λ n. cond (same_key key q) n (uses before q)) (sym (ap (λ n. n - 1) last));
  objects = λ q. left_by before after q (same_key key q) (gone.objects q);
  loaders = λ q. gone.loaders q ∙ alike (loader before) None key q (same_key key q) refl (sym (loaded (slot_at before.slots key) 0 last));
  capacity = gone.capacity;
}
ends (suc (suc left)) key before after more at = record {
  counts = λ q. at.counts q ∙ ap (λ n. cond (same_key key q) n (uses before q)) (one_less (uses before key) left more);
  objects = λ q. inl (at.objects q ∙ alike (listed before) (listed before key) key q (same_key key q) refl refl);
  loaders = λ q. at.loaders q ∙ alike (loader before) None key q (same_key key q) refl (sym (loaded (slot_at before.slots key) (suc left) more));
  capacity = at.capacity;
}

same_ended : (b : Bool) (n : ℕ) → n ≡ n - ended b b
same_ended true n = sym (less_none n)
same_ended false n = sym (less_none n)

pub step : (old new : ObjectKey → Bool) (key : ObjectKey) (before after : Cache) → old key ≡ true → ((q : ObjectKey) → new q ≡ cond (is_key key q) false (old q))
    → use_ended (uses before key) before after key → Released old new before after
step old new key before after had gone is = record {
  fewer = λ q. fewer q (same_key key q) refl;
  counts = λ q. counts q (same_key key q) refl;
  objects = at.objects;
  loaders = at.loaders;
  capacity = at.capacity;
}
  where
    at : Ends key before after
    at = ends (uses before key) key before after refl is

    now : (q : ObjectKey) (b : Bool) → same_key key q ≡ b → new q ≡ cond b false (old q)
    now q b same = gone q ∙ ap (λ b. cond b false (old q)) (tied key q ∙ same)

    fewer : (q : ObjectKey) (b : Bool) → same_key key q ≡ b → new q ≡ true → old q ≡ true
    fewer q true same there = absurd (true≢false (sym there ∙ now q true same))
    fewer q false same there = sym (now q false same) ∙ there

    counts : (q : ObjectKey) (b : Bool) → same_key key q ≡ b → uses after q ≡ uses before q - ended (old q) (new q)
    counts q true same =
        at.counts q ∙ ap (λ b. cond b (uses before key - 1) (uses before q)) same
        ∙ ap (λ k. uses before k - 1) (one key q same)
        ∙ ap (λ b. uses before q - ended b false) (sym (ap old (sym (one key q same)) ∙ had))
        ∙ ap (λ b. uses before q - ended (old q) b) (sym (now q true same))
    counts q false same =
        at.counts q ∙ ap (λ b. cond b (uses before key - 1) (uses before q)) same
        ∙ same_ended (old q) (uses before q)
        ∙ ap (λ b. uses before q - ended (old q) b) (sym (now q false same))

-- ## One key after another

pub nothing_yet : (held : ObjectKey → Bool) (cache : Cache) → Released held held cache cache
nothing_yet held cache = record {
  fewer = λ q there. there;
  counts = λ q. same_ended (held q) (uses cache q);
  objects = λ q. inl refl;
  loaders = λ q. refl;
  capacity = refl;
}

both_ended : (a b c : Bool) (n : ℕ) → (b ≡ true → a ≡ true) → (c ≡ true → b ≡ true) → (n - ended a b) - ended b c ≡ n - ended a c
both_ended true true c n ab bc = ap (λ n. n - ended true c) (less_none n)
both_ended true false true n ab bc = absurd (true≢false (sym (bc refl)))
both_ended true false false n ab bc = less_none (n - 1)
both_ended false true c n ab bc = absurd (true≢false (sym (ab refl)))
both_ended false false true n ab bc = absurd (true≢false (sym (bc refl)))
both_ended false false false n ab bc = less_none (n - 0)

then_left : (a b c : Cache) (q : ObjectKey) → StaysOrLeft a b q → StaysOrLeft b c q → StaysOrLeft a c q
then_left a b c q (inl stays) (inl stayed) = inl (stayed ∙ stays)
then_left a b c q (inr left) (inl stayed) = inr (stayed ∙ left.0, none_used c q (stayed ∙ left.0))
then_left a b c q first (inr left) = inr left

pub then_released : (old mid new : ObjectKey → Bool) (a b c : Cache) → Released old mid a b → Released mid new b c → Released old new a c
then_released old mid new a b c first second = record {
  fewer = λ q there. first.fewer q (second.fewer q there);
  counts = λ q. second.counts q ∙ ap (λ n. n - ended (mid q) (new q)) (first.counts q) ∙ both_ended (old q) (mid q) (new q) (uses a q) (first.fewer q) (second.fewer q);
  objects = λ q. then_left a b c q (first.objects q) (second.objects q);
  loaders = λ q. second.loaders q ∙ first.loaders q;
  capacity = second.capacity ∙ first.capacity;
}

pub still_used : (old new : ObjectKey → Bool) (a b : Cache) → AreUsed old a → Released old new a b → AreUsed new b
still_used old new a b used released = record { used = λ q there some. on q there some (released.objects q) }
  where
    held : (q : ObjectKey) → new q ≡ true → uses b q ≡ uses a q
    held q there = released.counts q ∙ ap (λ s. uses a q - ended s (new q)) (released.fewer q there) ∙ ap (λ s. uses a q - ended true s) there ∙ less_none (uses a q)

    on : (q : ObjectKey) → new q ≡ true → IsSome (listed b q) → StaysOrLeft a b q → 0 < uses b q
    on q there some (inl stays) = subst (λ n. 0 < n) (sym (held q there)) (used.used q (released.fewer q there) (subst IsSome stays some))
    on q there some (inr left) = absurd (true≢false (sym (subst IsSome left.0 some)))

-- ## The last entry

in_some : {X : Type 0} (b : Bool) (x : X) (rest : Option X) → is_some rest ≡ true → is_some (cond b (Some x) rest) ≡ true
in_some true x rest is = refl
in_some false x rest is = is

now_gone : {X : Type 0} (b : Bool) (rest : Option X) → is_some (cond b None rest) ≡ cond b false (is_some rest)
now_gone true rest = refl
now_gone false rest = refl

mapped : {X Y : Type 0} (f : X → Y) (o : Option X) → is_some (option_map f o) ≡ is_some o
mapped f None = refl
mapped f (Some x) = refl

-- a key is gone where it was removed
pub gone_one : {X Y : Type 0} (f : X → Y) (o : Option X) (b : Bool) (rest : Option X) → o ≡ cond b None rest → is_some (option_map f o) ≡ cond b false (is_some (option_map f rest))
gone_one f o b rest is = mapped f o ∙ ap is_some is ∙ now_gone b rest ∙ ap (λ h. cond b false h) (sym (mapped f rest))

found_itself : {X : Type 0} (b : Bool) (x : X) → b ≡ true → is_some (cond b (Some x) None) ≡ true
found_itself true x is = refl
found_itself false x is = absurd (true≢false (sym is))

at_last : {V : Type 0} (entries : List (ObjectKey × V)) (key : ObjectKey) (value : V) → is_some (lookup (is_key key) (entries ++ (key, value) ∷ [])) ≡ true
at_last [] key value = found_itself (is_key key key) value (tied key key ∙ itself key)
at_last (e ∷ entries) key value = in_some (is_key key e.0) e.1 (lookup (is_key key) (entries ++ (key, value) ∷ [])) (at_last entries key value)

-- the last key was there
pub last_held : {V Y : Type 0} (f : V → Y) (entries : List (ObjectKey × V)) (key : ObjectKey) (value : V) → is_some (option_map f (lookup (is_key key) (entries ++ (key, value) ∷ []))) ≡ true
last_held f entries key value = mapped f (lookup (is_key key) (entries ++ (key, value) ∷ [])) ∙ at_last entries key value

-- ## All at once

as_one : (b : Bool) → ended b false ≡ (if b then 1 else 0)
as_one true = refl
as_one false = refl

pub all_ended : (old new : ObjectKey → Bool) (before after : Cache) → ((q : ObjectKey) → new q ≡ false) → Released old new before after → AllReleased old before after
all_ended old new before after none released = record {
  counts = λ q. released.counts q ∙ ap (λ b. uses before q - ended (old q) b) (none q) ∙ ap (λ n. uses before q - n) (as_one (old q));
  objects = released.objects;
  loaders = released.loaders;
  capacity = released.capacity;
}
