use Rattle.std.proofs.Common.{rules}
use Rattle.metadata_locks.proofs.Places.{granted}
use Rattle.metadata_locks.proofs.held.grant.Goals as goal

pub returns-in-Some-clause-granted : goal.returns-in-Some-clause-granted
returns-in-Some-clause-granted c =
    granted c.args.held.now (c.get_mut.follows.lender c.add.new.self) c.args.request.now c.in-Some.modes.now c.add.new.self
    (record { at = ((c.get_mut.follows.holds c.add.new.self).3 (search rules)).0 }) c.in-Some.ensures.value c.add.ensures
