-- Locks that are asked for, in their order and each once, and locks that a session holds.
use Rattle.std.specs.Prelude.{◌≡◌, Bool, true, List, [], ◌∷◌}
use Rattle.std.specs.declared.cmp.Ordering.{Ordering}
use Rattle.std.specs.BTreeSet.{insert_key}
use Rattle.metadata_locks.specs.declared.request.LockKey.{LockKey}
use Rattle.metadata_locks.specs.declared.request.Mode.{Mode}
use Rattle.metadata_locks.specs.declared.request.Request.{Request}
use Rattle.metadata_locks.specs.contracts.request.RequestOrd.TheImpl as request_ord
use Rattle.metadata_locks.specs.Held.{ask_for}
use Rattle.metadata_locks.specs.Modes.{goes_with}

-- by their keys, and then by their modes
abbrev pub request_cmp : Request → Request → Ordering
request_cmp = (request_ord.ghosts).cmp

abbrev pub request : Mode → LockKey → Request
request mode key = record { key = key; mode = mode }

-- one more request at its place in the order, unless it is there
abbrev pub with_request : List Request → Request → List Request
with_request requests r = insert_key request_cmp requests r

abbrev pub with_requests : List Request → List Request → List Request
with_requests requests [] = requests
with_requests requests (r ∷ more) = with_requests (with_request requests r) more

-- the keys that a session has locked, each in these modes
abbrev pub Holding : Type 0
Holding = LockKey → Mode → Bool

-- the locks of whoever holds all that is asked for, and no more
unfoldable pub holding : List Request → Holding
holding requests key mode = ask_for requests key mode

-- who holds the one holds the other
pub record AreAmong (less more : Holding) : Type 0 where
  pub all : (key : LockKey) (mode : Mode) → less key mode ≡ true → more key mode ≡ true

-- on no key do the two have modes that don't go together
pub record GoTogether (one other : Holding) : Type 0 where
  pub all : (key : LockKey) (mode mode' : Mode) → one key mode ≡ true → other key mode' ≡ true → goes_with mode mode' ≡ true
