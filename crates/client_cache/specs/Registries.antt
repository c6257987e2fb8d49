-- What the registries of a client show at each key.
use Rattle.std.specs.Prelude.{Bool, Option, Some, None, is_some, if◌then◌else◌}
use Rattle.std.specs.Option.{option_map}
use Rattle.std.specs.Arc.{arc_value}
use Rattle.std.specs.declared.sync.Arc.{Arc}
use Rattle.indexmap.specs.IndexMap.{IndexMap, get}
use Rattle.indexmap.specs.IndexSet.{contains}
use Rattle.dd_names.specs.declared.object_name.ObjectKey.{ObjectKey}
use Rattle.dd_names.specs.contracts.object_name.ObjectKeyPartialEq.TheImpl as key_eq
use Rattle.dd_catalog.specs.declared.object.Object.{Object}
use Rattle.dd_catalog.specs.declared.object.Object.TheVariants as objects
use Rattle.client_cache.specs.declared.client.Client.{Client}

abbrev pub is_key : ObjectKey → ObjectKey → Bool
is_key = (key_eq.ghosts).eq

-- the shared object that stands under the key
abbrev pub held_at : {Z S : Type 0} → IndexMap ObjectKey (Arc Object Z) S → ObjectKey → Option Object
held_at held key = option_map arc_value (get is_key held key)

-- the shared object that the client holds under the key
abbrev pub committed : Client → ObjectKey → Option Object
committed client key = held_at client.committed key

-- a shared object stands under the key
abbrev pub holds_in : {Z S : Type 0} → IndexMap ObjectKey (Arc Object Z) S → ObjectKey → Bool
holds_in held key = is_some (held_at held key)

-- the client holds a shared object under the key
abbrev pub holds : Client → ObjectKey → Bool
holds client key = holds_in client.committed key

-- the object that the session's statement has made under the key
abbrev pub uncommitted : Client → ObjectKey → Option Object
uncommitted client key = get is_key client.uncommitted key

-- the session's statement has dropped what had the key
abbrev pub is_dropped : Client → ObjectKey → Bool
is_dropped client key = contains is_key client.dropped key

-- what is made comes first, then what is dropped, and then what is held
abbrev pub seen_first : Option Object → Bool → Option Object → Option Object
seen_first (Some object) dropped held = Some object
seen_first None dropped held = if dropped then Some objects.Absent else held

-- what the session sees at the key
abbrev pub known_at : Client → ObjectKey → Option Object
known_at client key = seen_first (uncommitted client key) (is_dropped client key) (committed client key)
