-- What is locked.
use Rattle.std.specs.Prelude.{ℕ, Bool, true, false, ◌≡◌, ◌&&◌, ◌==◌, List, [], ◌∷◌, Option, Some, None}
use Rattle.std.specs.List.{list_any}
use Rattle.std.specs.Ordering.{is_eq, nat_cmp}
use Rattle.std.specs.declared.cmp.Ordering.{Ordering}
use Rattle.std.specs.BTreeMap as tree
use Rattle.std.specs.BTreeMap.{BTreeMap}
use Rattle.metadata_locks.specs.declared.request.LockKey.{LockKey}
use Rattle.metadata_locks.specs.declared.request.Mode.{Mode}
use Rattle.metadata_locks.specs.declared.request.Mode.TheVariants.{IX, S, X}
use Rattle.metadata_locks.specs.declared.request.Request.{Request}
use Rattle.metadata_locks.specs.declared.modes.Modes.{Modes}
use Rattle.metadata_locks.specs.declared.locks.Locks.{Locks}
use Rattle.metadata_locks.specs.contracts.request.LockKeyOrd.TheImpl as key_ord
use Rattle.metadata_locks.specs.Modes.{no_modes, has, goes_with}

-- keys by their variants, and then by their names
abbrev pub key_cmp : LockKey → LockKey → Ordering
key_cmp = (key_ord.ghosts).cmp

abbrev pub Held : Type 0
Held = BTreeMap LockKey Modes

abbrev pub modes_or_none : Option Modes → Modes
modes_or_none None = no_modes
modes_or_none (Some modes) = modes

-- the modes in which a session has locked the key
abbrev pub modes_at : Held → LockKey → Modes
modes_at held key = modes_or_none (tree.get key_cmp held key)

-- there is a place for the key
abbrev pub HasPlace : Held → LockKey → Type 0
HasPlace held key = tree.ContainsKey key_cmp held key

-- there is a place for each key that is asked for
abbrev pub HavePlaces : Held → List Request → Type 0
HavePlaces held [] = Unit {0}
HavePlaces held (request ∷ requests) = HasPlace held request.key × HavePlaces held requests

abbrev pub same_mode : Mode → Mode → Bool
same_mode IX IX = true
same_mode S S = true
same_mode X X = true
same_mode _ _ = false

-- the request is for the key in this mode
abbrev pub is_for : LockKey → Mode → Request → Bool
is_for key mode request = is_eq (key_cmp request.key key) && same_mode request.mode mode

-- the requests ask for the key in this mode
abbrev pub ask_for : List Request → LockKey → Mode → Bool
ask_for requests key mode = list_any (is_for key mode) requests

abbrev pub modes_held : Option Held → LockKey → Modes
modes_held None key = no_modes
modes_held (Some held) key = modes_at held key

-- the session has locked the key in this mode
abbrev pub holds : Locks → ℕ → LockKey → Mode → Bool
holds locks session key mode = has (modes_held (tree.get nat_cmp locks.sessions session) key) mode

-- what different sessions have locked goes together
pub record IsCompatible (locks : Locks) : Type 0 where
  pub together : (session other : ℕ) (key : LockKey) (mode mode' : Mode) → session == other ≡ false
      → holds locks session key mode ≡ true → holds locks other key mode' ≡ true → goes_with mode mode' ≡ true
