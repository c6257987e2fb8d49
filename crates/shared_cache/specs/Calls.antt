-- What the calls of a cache answer and leave.
use Rattle.std.specs.Prelude.{ℕ, zero, suc, ◌≡◌, ◌≢◌, ◌+◌, ◌⊎◌, List, [], ◌∷◌, take, drop, Option, Some, None, cond}
use Rattle.std.specs.Arc.{arc_value}
use Rattle.dd_names.specs.declared.object_name.ObjectKey.{ObjectKey}
use Rattle.dd_catalog.specs.declared.object.Object.{Object}
use Rattle.shared_cache.specs.declared.found.Found.{Found}
use Rattle.shared_cache.specs.declared.found.Found.TheVariants.{Hit, Loading, Miss}
use Rattle.shared_cache.specs.State.{Cache, same_key, listed, uses, loader, among, without}

-- nothing is listed or loaded
pub record IsEmpty (cache : Cache) (bound : ℕ) : Type 0 where
  pub objects : (key : ObjectKey) → listed cache key ≡ None
  pub counts : (key : ObjectKey) → uses cache key ≡ 0
  pub loaders : (key : ObjectKey) → loader cache key ≡ None
  pub rests : cache.unused ≡ []
  pub capacity : cache.capacity ≡ bound

-- nothing has changed
pub record IsSame (old new : Cache) : Type 0 where
  pub objects : (other : ObjectKey) → listed new other ≡ listed old other
  pub counts : (other : ObjectKey) → uses new other ≡ uses old other
  pub loaders : (other : ObjectKey) → loader new other ≡ loader old other
  pub rests : new.unused ≡ old.unused
  pub capacity : new.capacity ≡ old.capacity

-- this object with so many uses, or this session with a ticket, is now at the key; what other keys have stays; these keys are unused
pub record IsAt (old new : Cache) (key : ObjectKey) (object : Option Object) (count : ℕ) (session : Option ℕ) (unused : List ObjectKey) : Type 0 where
  pub objects : (other : ObjectKey) → listed new other ≡ cond (same_key key other) object (listed old other)
  pub counts : (other : ObjectKey) → uses new other ≡ cond (same_key key other) count (uses old other)
  pub loaders : (other : ObjectKey) → loader new other ≡ cond (same_key key other) session (loader old other)
  pub rests : new.unused ≡ unused
  pub capacity : new.capacity ≡ old.capacity

-- the object is the one that is listed at the key; or another session loads it; or neither is there, and the ticket is for this key and session
abbrev pub found_told : Found → Cache → ObjectKey → ℕ → Type 0
found_told (Hit object) old key session = listed old key ≡ Some (arc_value object)
found_told (Loading by) old key session = (listed old key ≡ None) × (loader old key ≡ Some by) × (by ≢ session)
found_told (Miss ticket) old key session = (listed old key ≡ None) × (loader old key ≡ None) × (ticket ≡ record { key = key; session = session })

-- one more use of what is listed, which is then not unused; a ticket that is given; nothing else
abbrev pub found_after : Found → Cache → Cache → ObjectKey → ℕ → Type 0
found_after (Hit object) old new key session = IsAt old new key (listed old key) (uses old key + 1) None (without key old.unused)
found_after (Loading by) old new key session = IsSame old new
found_after (Miss ticket) old new key session = IsAt old new key None 0 (Some session) old.unused

-- the object of the key has lost its last use and is the first of the unused; those beyond the capacity have left the cache
pub record Rests (old new : Cache) (key : ObjectKey) : Type 0 where
  pub objects : (other : ObjectKey) → listed new other ≡ cond (among (drop old.capacity (key ∷ old.unused)) other) None (listed old other)
  pub counts : (other : ObjectKey) → uses new other ≡ cond (same_key key other) 0 (uses old other)
  pub loaders : (other : ObjectKey) → loader new other ≡ loader old other
  pub rests : new.unused ≡ take old.capacity (key ∷ old.unused)
  pub capacity : new.capacity ≡ old.capacity

-- a use of the key ends that had so many: without one nothing changes; after the last the object rests, or has left the cache for want of memory
abbrev pub use_ended : ℕ → Cache → Cache → ObjectKey → Type 0
use_ended zero old new key = IsSame old new
use_ended (suc zero) old new key = Rests old new key ⊎ IsAt old new key None 0 None old.unused
use_ended (suc (suc left)) old new key = IsAt old new key (listed old key) (suc left) None old.unused
