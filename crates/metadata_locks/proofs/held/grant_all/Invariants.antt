use Rattle.std.proofs.Common.{drop}
use Rattle.metadata_locks.specs.Held.{HavePlaces}
use Rattle.metadata_locks.proofs.Places.{GrantsRest}
use Rattle.metadata_locks.proofs.held.grant_all.Given as goal

abbrev pub invariant-places : goal.invariant-places
invariant-places l = GrantsRest l.initial.held l.held (drop l.place l.requests) l.requests × HavePlaces l.held (drop l.place l.requests)
