use Rattle.std.proofs.Common.{◌≡◌, drop}
use Rattle.dd_run.specs.Printed.{printed_from, printed_names}
use Rattle.dd_run.proofs.Writing.{Writing}
use Rattle.dd_run.proofs.print.print_history.Given as goal

abbrev pub invariant-sessions : goal.invariant-sessions
invariant-sessions g l = record {
  number : l.session ≡ l.name-index;
  writing : Writing (g.K.Sink.held l.fn.sink) (g.K.Sink.held l.sink) (g.K.Sink.faults l.fn.sink) (g.K.Sink.faults l.sink)
      (printed_from l.name-index (drop l.name-index l.names) l.history) (printed_names l.names l.history);
}
