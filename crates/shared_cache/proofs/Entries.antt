-- What the list of the unused keys is after an entry has come or gone.
use Rattle.std.proofs.Common.{◌≡◌, ℕ, zero, suc, ◌-◌, ◌^◌, ◌<◌, ◌≤◌, false, List, [], ◌∷◌, length, take, drop, refl, sym, ◌∙◌, ap, arith}
use Rattle.std.specs.Prelude.{Some, None, slice_get}
use Rattle.std.specs.Option.{option_map_or}
use Rattle.std.specs.Map.{keys_of, remove_entry}
use Rattle.std.proofs.lemmas.List.{drop_all, take_all, take-map, length-map}
use Rattle.lru.specs.LruCache.{put_entries}
use Rattle.dd_names.specs.declared.object_name.ObjectKey.{ObjectKey}
use Rattle.shared_cache.specs.State.{among}
use Rattle.shared_cache.specs.Fields.{Unused, key_eq}
use Rattle.shared_cache.proofs.Keys.{no_entry}

pub key_count : (entries : List (ObjectKey × Unit {0})) → length (keys_of entries) ≡ length entries
key_count entries = length-map entries (λ (e : ObjectKey × Unit {0}). e.0)

pub kept_taken : (n : ℕ) (entries : List (ObjectKey × Unit {0})) → keys_of (take n entries) ≡ take n (keys_of entries)
kept_taken n entries = sym (take-map (λ (e : ObjectKey × Unit {0}). e.0) n entries)

none_at : (entries : List (ObjectKey × Unit {0})) (i : ℕ) → None ≡ slice_get entries i → drop i (keys_of entries) ≡ []
none_at [] zero none = refl
none_at [] (suc i) none = refl
none_at (e ∷ entries) zero none = absurd cc
none_at (e ∷ entries) (suc i) none = none_at entries i none

one_at : (entries : List (ObjectKey × Unit {0})) (i : ℕ) (last : ObjectKey × Unit {0}) → length entries ≡ suc i → Some last ≡ slice_get entries i → drop i (keys_of entries) ≡ last.0 ∷ []
one_at [] i last long some = absurd cc
one_at (e ∷ []) zero last long some = let same : last ≡ e = cc in ap (λ (l : ObjectKey × Unit {0}). l.0 ∷ []) (sym same)
one_at (e ∷ []) (suc i) last long some = absurd cc
one_at (e ∷ f ∷ entries) zero last long some = absurd (omega (arith, long))
one_at (e ∷ f ∷ entries) (suc i) last long some = one_at (f ∷ entries) i last (omega (arith, long)) some

pub last_none : (entries : List (ObjectKey × Unit {0})) → None ≡ slice_get entries (length entries - 1) → drop (length entries - 1) (keys_of entries) ≡ []
last_none entries none = none_at entries (length entries - 1) none

pub last_some : (entries : List (ObjectKey × Unit {0})) (last : ObjectKey × Unit {0}) → Some last ≡ slice_get entries (length entries - 1) → drop (length entries - 1) (keys_of entries) ≡ last.0 ∷ []
last_some [] last some = absurd cc
last_some (e ∷ entries) last some = one_at (e ∷ entries) (length (e ∷ entries) - 1) last (omega arith) some

-- a new key comes first, and none is pushed out
pub put_before : (unused : Unused) (key : ObjectKey) (unit : Unit {0}) → among (keys_of unused.entries) key ≡ false → unused.cap ≡ 2 ^ 64 - 1 → length unused.entries < 2 ^ 63
    → keys_of (put_entries key_eq unused key unit) ≡ key ∷ keys_of unused.entries
put_before unused key unit absent cap few =
    ap (λ o. keys_of (option_map_or (λ (e : ObjectKey × Unit {0}). (e.0, unit) ∷ remove_entry (key_eq key) unused.entries) o ((key, unit) ∷ take (unused.cap - 1) unused.entries))) (no_entry key unused.entries absent)
    ∙ ap (λ entries. key ∷ keys_of entries) (take_all (unused.cap - 1) unused.entries (unbounded cap few))
  where
    unbounded : {cap len : ℕ} → cap ≡ 2 ^ 64 - 1 → len < 2 ^ 63 → len ≤ cap - 1
    unbounded cap few = omega (arith, cap, few)

-- within the capacity all stay
pub all_kept : (capacity : ℕ) (keys : List ObjectKey) → length keys ≤ capacity → keys ≡ take capacity keys
all_kept capacity keys le = sym (take_all capacity keys le)

pub none_left : (capacity : ℕ) (keys : List ObjectKey) → length keys ≤ capacity → drop capacity keys ≡ []
none_left capacity keys le = drop_all capacity keys le

-- beyond the capacity there is one too many
pub one_over : (old after : List (ObjectKey × Unit {0})) (capacity : ℕ) (key : ObjectKey) → keys_of after ≡ key ∷ keys_of old → length old ≤ capacity → capacity < length after → length after - 1 ≡ capacity
one_over old after capacity key added fits over = omega (arith, sym (key_count after) ∙ ap length added, key_count old, fits, over)

pub within : (old after : List (ObjectKey × Unit {0})) (capacity : ℕ) (key : ObjectKey) → keys_of after ≡ key ∷ keys_of old → length after ≤ capacity → length (key ∷ keys_of old) ≤ capacity
within old after capacity key added le = omega (arith, sym (key_count after) ∙ ap length added, le)
