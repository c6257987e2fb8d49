use Rattle.std.proofs.Common.{refl, sym, ◌∙◌, ap, subst}
use Rattle.std.specs.Prelude.{None}
use Rattle.std.proofs.lemmas.Result.{err_from_is_err_and}
use Rattle.dd_names.specs.Names.{fold}
use Rattle.dd_catalog.specs.Follow.{Stops}
use Rattle.dd_catalog.specs.Walks.{run}
use Rattle.rules_create.specs.Made.{AreFoldedNames}
use Rattle.rules_create.specs.Tables.{one_column}
use Rattle.rules_create.proofs.FoldedNames.{was_there, column_has_name, column_there, column_stop, column_fine, one_more, came}
use Rattle.rules_create.proofs.columns.one_column.Goals as goal

pub returns-then-not-branch-clause-exact : goal.returns-then-not-branch-clause-exact
returns-then-not-branch-clause-exact c look =
    let is = was_there c.args.names.now c.args.before.now c.args.words.now.name c.in_ok-fold.field-0 c.in_ok-insert.field-0 c.in_ok-fold.ensures c.in_ok-insert.ensures.added c.requires in
    subst (λ s. Stops s (run look (one_column c.args.before.now c.args.words.now))) (sym c.in_ok-dup_fieldname.ensures) (column_there look c.args.before.now c.args.words.now c.in_ok-insert.field-0 is c.if-not-branch.true)

pub returns-in_err-column-clause-exact : goal.returns-in_err-column-clause-exact
returns-in_err-column-clause-exact c look =
    let is = was_there c.args.names.now c.args.before.now c.args.words.now.name c.in_ok-fold.field-0 c.in_ok-insert.field-0 c.in_ok-fold.ensures c.in_ok-insert.ensures.added c.requires in
    let p = err_from_is_err_and c.from_residual-in_err-column.result c.from_residual-in_err-column.ensures.1 in
    rw (p.1, p.2) (column_stop c.in_err-column.field-0.0 look c.args.before.now c.args.words.now c.in_ok-insert.field-0 is c.if-not-branch.false (c.in_err-column.ensures look))

pub returns : goal.returns
returns c =
    let is = was_there c.args.names.now c.args.before.now c.args.words.now.name c.in_ok-fold.field-0 c.in_ok-insert.field-0 c.in_ok-fold.ensures c.in_ok-insert.ensures.added c.requires in
    let named = column_has_name (λ key. None) c.args.words.now c.in_ok-column.column (c.in_ok-column.ensures (λ key. None)) in
    record {
      exact = λ look. column_fine look c.args.before.now c.args.words.now c.in_ok-insert.field-0 c.in_ok-column.column is c.if-not-branch.false (c.in_ok-column.ensures look) ∙ ap came (sym c.in_ok-push.ensures.ok);
      names = subst (AreFoldedNames c.insert.new.self) (sym c.in_ok-push.ensures.ok)
          (one_more c.args.names.now c.insert.new.self c.args.before.now c.in_ok-column.column c.in_ok-fold.field-0 (c.in_ok-fold.ensures ∙ ap fold (sym named)) c.in_ok-insert.ensures.updates.0 c.requires);
    }
