use Rattle.rules_elements.specs.Taken.{IsTried}
use Rattle.rules_elements.proofs.taken_names.TakenNames.free_number.Given as goal

abbrev pub invariant-numbers : goal.invariant-numbers
invariant-numbers l = IsTried l.indexes l.base l.number
