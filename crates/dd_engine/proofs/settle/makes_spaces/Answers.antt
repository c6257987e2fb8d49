use Rattle.std.proofs.Common.{List, ap, ◌∙◌}
use Rattle.std.specs.List.{list_any}
use Rattle.rules_outcome.specs.Choices.{Change, makes_space}
use Rattle.rules_outcome.specs.Decided.{change_of}
use Rattle.rules_outcome.specs.declared.decided.Edit.{Edit}
use Rattle.dd_engine.proofs.Settling.{any_mapped}
use Rattle.dd_engine.proofs.settle.makes_spaces.Goals as goal

pub returns : goal.returns
returns c =
    c.any_spaced.ensures ∙ ap (λ (edits : List Edit). list_any (λ (edit : Edit). makes_space (change_of edit).after) edits) c.as_slice.ensures
    ∙ any_mapped (λ (change : Change). makes_space change.after) c.args.edits.now.puts
