use Rattle.std.proofs.Common.{◌≡◌}
use Rattle.row_fields.specs.Repeated.{repeated}
use Rattle.row_fields.proofs.reading.repeated.Given as goal

abbrev pub invariant-each : goal.invariant-each
invariant-each l = l.all.items ≡ repeated l.counter l.kinds
