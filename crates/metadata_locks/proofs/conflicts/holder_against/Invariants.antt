use Rattle.std.proofs.Common.{◌≡◌}
use Rattle.metadata_locks.specs.Conflicts.{holder_among, holder_against}
use Rattle.metadata_locks.proofs.conflicts.holder_against.Given as goal

abbrev pub invariant-sessions : goal.invariant-sessions
invariant-sessions l = holder_among l.session l.request l.other-iterator ≡ holder_against l.locks l.session l.request
