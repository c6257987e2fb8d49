use Rattle.std.proofs.Common.{◌≡◌, ◌-◌}
use Rattle.row_batch.specs.Reading.{operations_at}
use Rattle.row_batch.proofs.Loop.{with_front}
use Rattle.row_batch.proofs.reading.operations_of.Given as goal

abbrev pub invariant-each : goal.invariant-each
invariant-each l = with_front l.operations.items (operations_at (l.count - l.counter) l.rest) ≡ operations_at l.count l.bytes
