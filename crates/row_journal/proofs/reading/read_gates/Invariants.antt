use Rattle.std.proofs.Common.{◌≡◌, ◌++◌, length}
use Rattle.std.specs.List.{AllByRecursion}
use Rattle.row_journal.specs.Contents.{IsSized, gated}
use Rattle.row_journal.specs.Opening.{operations_of}
use Rattle.row_journal.proofs.reading.read_gates.Given as goal

abbrev pub invariant-gates : goal.invariant-gates
invariant-gates l = record { stands : l.bytes ≡ gated (operations_of l.batches.items) ++ l.rest; each : AllByRecursion IsSized (operations_of l.batches.items) }

abbrev pub decreases-gates : goal.decreases-gates
decreases-gates l = length l.rest
