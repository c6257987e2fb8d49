use Rattle.std.proofs.Common.{List, ap, ◌∙◌}
use Rattle.std.specs.List.{list_any}
use Rattle.rules_outcome.specs.Choices.{Change, takes_number}
use Rattle.rules_outcome.specs.Decided.{change_of}
use Rattle.rules_outcome.specs.declared.decided.Edit.{Edit}
use Rattle.dd_engine.proofs.Settling.{any_mapped}
use Rattle.dd_engine.proofs.settle.draws_number.Goals as goal

pub returns : goal.returns
returns c =
    c.any_numbered.ensures ∙ ap (λ (edits : List Edit). list_any (λ (edit : Edit). takes_number (change_of edit).after) edits) c.as_slice.ensures
    ∙ any_mapped (λ (change : Change). takes_number change.after) c.args.edits.now.puts
