use Rattle.std.proofs.Common.{◌≡◌, drop}
use Rattle.metadata_locks.specs.declared.request.LockKey.{LockKey}
use Rattle.metadata_locks.specs.Held.{modes_at}
use Rattle.metadata_locks.proofs.Places.{MakesRest}
use Rattle.metadata_locks.proofs.held.make_places.Given as goal

abbrev pub invariant-places : goal.invariant-places
invariant-places l = ((key : LockKey) → modes_at l.held key ≡ modes_at l.initial.held key) × MakesRest l.held (drop l.place l.requests) l.requests
