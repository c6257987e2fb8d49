use Rattle.std.proofs.Common.{◌≡◌, ◌≤◌, ◌-◌, length, drop}
use Rattle.row_store.specs.Merging.{skip, passes_deletion}
use Rattle.row_store.proofs.merging.behind_deletions.Given as goal

abbrev pub invariant-each : goal.invariant-each
invariant-each l = record {
  within : l.at ≤ length l.operations;
  same : skip (passes_deletion l.key) (drop l.at l.operations) ≡ skip (passes_deletion l.key) (drop l.from l.operations);
}

abbrev pub decreases-each : goal.decreases-each
decreases-each l = length l.operations - l.at
