use Rattle.std.proofs.Common.{sym, subst}
use Rattle.dd_catalog.specs.declared.object.Object.{Object}
use Rattle.rules_outcome.specs.Decided.{HasIdsAt}
use Rattle.rules_rename.specs.Left.{kept}
use Rattle.rules_rename.proofs.one_object.child_after.Goals as goal

pub returns-in_ok-with_parents-in-Table-clause-ids : goal.returns-in_ok-with_parents-in-Table-clause-ids
returns-in_ok-with_parents-in-Table-clause-ids c known name has =
    let seen = subst (λ (o : Object). HasIdsAt known name (kept o)) c.in-Table.is has in
    subst (λ (o : Object). HasIdsAt known name (kept o)) (sym c.table.ensures) seen
