use Rattle.std.proofs.Common.{sym, ◌∙◌, arith}
use Rattle.row_store.specs.Merging.{passes_deletion}
use Rattle.row_store.proofs.Merged.{skip_one, skip_done}
use Rattle.row_store.proofs.merging.behind_deletions.Goals as goal

pub each-preserved : goal.each-preserved
each-preserved c =
    let one = skip_one (passes_deletion c.args.key.now) c.args.operations.now c.each.at (sym (sym c.each-test.true ∙ c.is_behind_deletion.ensures)) in
    record { within = omega (arith, one.1); same = one.0 ∙ c.each.invariant.same }

pub returns-clause-passed : goal.returns-clause-passed
returns-clause-passed c =
    sym (skip_done (passes_deletion c.args.key.now) c.args.operations.now c.each.at (sym (sym c.each-test.false ∙ c.is_behind_deletion.ensures))) ∙ c.each.invariant.same
