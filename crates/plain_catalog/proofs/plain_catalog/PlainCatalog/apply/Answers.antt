use Rattle.std.proofs.Common.{ap, sym, ◌∙◌}
use Rattle.rules_outcome.specs.Choices.{applied_at}
use Rattle.rules_outcome.specs.Decided.{after_of}
use Rattle.plain_catalog.proofs.Changes.{applied_last}
use Rattle.plain_catalog.proofs.plain_catalog.PlainCatalog.apply.Goals as goal

pub edits-preserved : goal.edits-preserved
edits-preserved c =
    let space = c.args.space in
    let edit = c.in-Some.edit in
    c.in_ok-apply_edit.ensures
    ∙ ap (λ cat. applied_at space edit.key (after_of edit.after) cat) c.edits.invariant
    ∙ sym (applied_last space c.edits.yielded edit c.args.self.now)
