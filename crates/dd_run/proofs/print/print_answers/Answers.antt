use Rattle.std.proofs.Common.{drop, ◌∷◌, [], ◌+◌}
use Rattle.dd_run.specs.Printed.{answers_text}
use Rattle.dd_run.proofs.Writing.{next, stopped}
use Rattle.dd_run.proofs.Printing.{answers_from}
use Rattle.dd_run.proofs.print.print_answers.Goals as goal

pub returns-in-Err : goal.returns-in-Err
returns-in-Err g c =
    let history = c.args.history.now in
    let i = c.entries.entry-index in
    let s = c.args.session in
    let e = c.entry-item.result in
    stopped _ _ _ _ _ _ (answers_text (drop i history) s) (answers_text (e ∷ []) s) (answers_text (drop (i + 1) history) s) (answers_text history s)
    (answers_from history i s e c.entries-test.true c.entry-item.is) c.entries.invariant c.in-Err.fault c.in-Err.ensures

pub entries-preserved : goal.entries-preserved
entries-preserved g c =
    let history = c.args.history.now in
    let i = c.entries.entry-index in
    let s = c.args.session in
    let e = c.entry-item.result in
    next _ _ _ _ _ _ (answers_text (drop i history) s) (answers_text (e ∷ []) s) (answers_text (drop (i + 1) history) s) (answers_text history s)
    (answers_from history i s e c.entries-test.true c.entry-item.is) c.entries.invariant c.in_default.ensures
