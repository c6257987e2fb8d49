use Rattle.std.proofs.Common.{length, ◌-◌, ◌≤◌}
use Rattle.disk_host.proofs.store.read_full.Given as goal

abbrev pub invariant-reads : goal.invariant-reads
invariant-reads g l = l.count ≤ length l.into

abbrev pub decreases-reads : goal.decreases-reads
decreases-reads g l = length l.initial.into - l.count
