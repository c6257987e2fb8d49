use Rattle.std.proofs.Common.{◌+◌, drop, arith}
use Rattle.dd_run.specs.Printed.{printed_from, printed_names, session_text}
use Rattle.dd_run.proofs.Writing.{next, stopped}
use Rattle.dd_run.proofs.Printing.{sessions_from, session_text_is}
use Rattle.dd_run.proofs.print.print_history.Goals as goal

pub returns-in-Err : goal.returns-in-Err
returns-in-Err g c =
    let history = c.args.history.now in
    let names = c.args.names.now in
    let i = c.sessions.name-index in
    let name = c.name-item.result in
    stopped _ _ _ _ _ _ (printed_from i (drop i names) history) (session_text name i history) (printed_from (i + 1) (drop (i + 1) names) history) (printed_names names history)
    (sessions_from names history i name c.sessions-test.true c.name-item.is) c.sessions.invariant.writing c.in-Err.fault
    (session_text_is _ _ _ _ _ c.as_str.result.now name c.sessions.session i history c.as_str.ensures.text c.sessions.invariant.number c.in-Err.ensures)

pub sessions-preserved : goal.sessions-preserved
sessions-preserved g c =
    let history = c.args.history.now in
    let names = c.args.names.now in
    let i = c.sessions.name-index in
    let name = c.name-item.result in
    record {
      number = omega (arith, c.sessions.invariant.number);
      writing = next _ _ _ _ _ _ (printed_from i (drop i names) history) (session_text name i history) (printed_from (i + 1) (drop (i + 1) names) history) (printed_names names history)
          (sessions_from names history i name c.sessions-test.true c.name-item.is) c.sessions.invariant.writing
          (session_text_is _ _ _ _ _ c.as_str.result.now name c.sessions.session i history c.as_str.ensures.text c.sessions.invariant.number c.in_default.ensures);
    }
