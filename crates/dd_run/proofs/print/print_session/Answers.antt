use Rattle.dd_run.specs.Printed.{session_line, answers_text}
use Rattle.dd_run.proofs.Writing.{writes_then}
use Rattle.dd_run.proofs.print.print_session.Goals as goal

pub returns : goal.returns
returns g c =
    writes_then _ _ _ _ _ _ (session_line c.args.name.now) (answers_text c.args.history.now c.args.session) c.print_answers.result
    c.in_default.ensures c.print_answers.ensures
