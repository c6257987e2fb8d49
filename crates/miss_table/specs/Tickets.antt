-- Which session loads which key.
use Rattle.std.specs.Prelude.{ℕ, ◌≡◌, ◌≢◌, Option, Some, None, cond}
use Rattle.std.specs.declared.cmp.Ordering.{Ordering}
use Rattle.std.specs.Ordering.{is_eq}
use Rattle.std.specs.BTreeMap as tree
use Rattle.dd_names.specs.declared.object_name.ObjectKey.{ObjectKey}
use Rattle.dd_names.specs.contracts.object_name.ObjectKeyOrd.TheImpl as key_ord
use Rattle.miss_table.specs.declared.misses.Begun.{Begun}
use Rattle.miss_table.specs.declared.misses.Begun.TheVariants.{Yours, Loading}
use Rattle.miss_table.specs.declared.misses.Misses.{Misses}

-- by the kind of the keys, and then by their names
abbrev pub key_cmp : ObjectKey → ObjectKey → Ordering
key_cmp = (key_ord.ghosts).cmp

-- the session that has a ticket for the key
abbrev pub loader : Misses → ObjectKey → Option ℕ
loader misses key = tree.get key_cmp misses.tickets key

-- the ticket is for this key and session, and nobody had one; or another session has one
abbrev pub begun_told : Begun → ObjectKey → ℕ → Option ℕ → Type 0
begun_told (Yours ticket) key session before = (ticket ≡ record { key = key; session = session }) × (before ≡ None)
begun_told (Loading by) key session before = (before ≡ Some by) × (by ≢ session)

-- a ticket that is given is the only change
abbrev pub tickets_after : Begun → Misses → Misses → Type 0
tickets_after (Yours ticket) old new = (other : ObjectKey) → loader new other ≡ cond (is_eq (key_cmp ticket.key other)) (Some ticket.session) (loader old other)
tickets_after (Loading by) old new = (other : ObjectKey) → loader new other ≡ loader old other
