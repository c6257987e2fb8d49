use Rattle.std.proofs.Common.{◌≡◌, List, length, map, take, ap, sym, ◌∙◌}
use Rattle.std.proofs.lemmas.List.{map-id}
use Rattle.std.proofs.lemmas.Iterator.Adapters.{YieldsList-from_vec}
use Rattle.std.proofs.lemmas.Iterator.Consumers.{YieldsList-so_far}
use Rattle.sql_ast.specs.declared.statement.Statement.{Statement}
use Rattle.dd_engine.specs.declared.history.Entry.{Entry}
use Rattle.dd_run.specs.Ending.{statement_of_entry}
use Rattle.dd_run.proofs.run.answer_each.Goals as goal

pub returns-in-Err-clause-first : goal.returns-in-Err-clause-first
returns-in-Err-clause-first c =
    let statements = c.args.statements in
    let yielded = c.statements.yielded in
    let items = c.into_vec-statement-items in
    let gives = c.into_iter-statement-iterator.ensures.into_iter_gives in
    let road = YieldsList-from_vec statements (gives.0 ∙ items.ensures) (gives.1 ∙ items.result.ok.0 ∙ ap (λ (l : List Statement). length l) items.ensures) in
    let first = YieldsList-so_far road yielded _ c.statements.yielded_by in
    let same = c.in-Err.ensures.err in
    (length yielded, ap (λ (history : List Entry). map statement_of_entry history) same ∙ c.statements.invariant.same ∙ sym (map-id yielded) ∙ first)
