use Rattle.std.proofs.Common.{◌≡◌, drop}
use Rattle.metadata_locks.specs.Conflicts.{conflict_from, first_conflict}
use Rattle.metadata_locks.proofs.conflicts.first_conflict.Given as goal

abbrev pub invariant-places : goal.invariant-places
invariant-places l = conflict_from l.locks l.session l.place (drop l.place l.requests) ≡ first_conflict l.locks l.session l.requests
