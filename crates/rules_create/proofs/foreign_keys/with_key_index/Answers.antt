use Rattle.std.proofs.Common.{◌∙◌, ap}
use Rattle.dd_definitions.specs.declared.parts.TableParts.{TableParts}
use Rattle.rules_create.proofs.OneKey.{with_name}
use Rattle.rules_create.proofs.foreign_keys.with_key_index.Goals as goal

pub returns-clause-name : goal.returns-clause-name
returns-clause-name c = ap (λ (p : TableParts). p.name) c.in_ok-add_index.ensures.parts ∙ with_name c.key_checked.new.draft.parts c.in_ok-index.index ∙ ap (λ (p : TableParts). p.name) c.in_ok-index.ensures.same
