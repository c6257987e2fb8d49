use Rattle.rules_elements.proofs.Taken.{names_of_none}
use Rattle.rules_elements.proofs.taken_names.TakenNames.new.Goals as goal

pub returns : goal.returns
returns c = names_of_none (record { folded = c.new.result; tried = c.new-2.result }) c.new.ensures.empty c.new-2.ensures.empty
