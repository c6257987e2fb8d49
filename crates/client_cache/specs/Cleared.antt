-- What stands in a shared cache when uses of its objects have ended.
use Rattle.std.specs.Prelude.{ℕ, ◌≡◌, ◌<◌, ◌-◌, ◌⊎◌, Bool, true, false, None, IsSome, if◌then◌else◌}
use Rattle.dd_names.specs.declared.object_name.ObjectKey.{ObjectKey}
use Rattle.shared_cache.specs.State.{Cache, listed, uses, loader}

-- each object that is listed under a held key has a use
pub record AreUsed (held : ObjectKey → Bool) (cache : Cache) : Type 0 where
  pub used : (key : ObjectKey) → held key ≡ true → IsSome (listed cache key) → 0 < uses cache key

-- the object at the key stays, or it has left the cache and had no other use
abbrev pub StaysOrLeft : Cache → Cache → ObjectKey → Type 0
StaysOrLeft before after key = (listed after key ≡ listed before key) ⊎ ((listed after key ≡ None) × (uses after key ≡ 0))

-- a use where the key was held and isn't any more
abbrev pub ended : Bool → Bool → ℕ
ended true true = 0
ended true false = 1
ended false now = 0

-- fewer keys are held, and of each key that isn't any more one use has ended; tickets are as before
pub record Released (old new : ObjectKey → Bool) (before after : Cache) : Type 0 where
  pub fewer : (key : ObjectKey) → new key ≡ true → old key ≡ true
  pub counts : (key : ObjectKey) → uses after key ≡ uses before key - ended (old key) (new key)
  pub objects : (key : ObjectKey) → StaysOrLeft before after key
  pub loaders : (key : ObjectKey) → loader after key ≡ loader before key
  pub capacity : after.capacity ≡ before.capacity

-- exactly one use of each held key has ended, and none of another; objects without use may have left; tickets are as before
pub record AllReleased (held : ObjectKey → Bool) (before after : Cache) : Type 0 where
  pub counts : (key : ObjectKey) → uses after key ≡ uses before key - (if held key then 1 else 0)
  pub objects : (key : ObjectKey) → StaysOrLeft before after key
  pub loaders : (key : ObjectKey) → loader after key ≡ loader before key
  pub capacity : after.capacity ≡ before.capacity
