use Rattle.std.proofs.Common.{drop}
use Rattle.dd_run.specs.Printed.{answers_text}
use Rattle.dd_run.proofs.Writing.{Writing}
use Rattle.dd_run.proofs.print.print_answers.Given as goal

abbrev pub invariant-entries : goal.invariant-entries
invariant-entries g l =
    Writing (g.K.Sink.held l.fn.sink) (g.K.Sink.held l.sink) (g.K.Sink.faults l.fn.sink) (g.K.Sink.faults l.sink)
    (answers_text (drop l.entry-index l.history) l.session) (answers_text l.history l.session)
