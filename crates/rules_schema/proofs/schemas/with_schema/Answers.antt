use Rattle.std.proofs.Common.{List, refl, sym, subst}
use Rattle.rules_outcome.specs.declared.decided.Edit.{Edit}
use Rattle.rules_named.specs.Answers.{AllBefore, AllIds}
use Rattle.rules_schema.proofs.schemas.with_schema.Goals as goal

pub returns-clause-before : goal.returns-clause-before
returns-clause-before c known before standing =
    let all = c.in_ok-add_edit.ensures.before known before (rw (c.in_ok-last.ensures.edit, c.in_ok-copy.ensures, standing) refl) in
    subst (λ (edits : List Edit). AllBefore known edits) (sym c.puts-2.view_is) all

pub returns-clause-ids : goal.returns-clause-ids
returns-clause-ids c known ids =
    let all = c.in_ok-add_edit.ensures.ids known ids (c.in_ok-last.ensures.ids known) in
    subst (λ (edits : List Edit). AllIds known edits) (sym c.puts-2.view_is) all
