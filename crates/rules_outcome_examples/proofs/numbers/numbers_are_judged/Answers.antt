use Rattle.std.specs.Prelude.{refl}
use Rattle.rules_outcome_examples.proofs.numbers.numbers_are_judged.Goals as goal

pub returns : goal.returns
returns c space table view = record { takes = refl; makes = refl }
