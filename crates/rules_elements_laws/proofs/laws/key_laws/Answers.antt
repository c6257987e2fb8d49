use Rattle.rules_elements_laws.proofs.FreeNames.{free_is_free}
use Rattle.rules_elements_laws.proofs.IndexesFit.{indexes_are_fit}
use Rattle.rules_elements_laws.proofs.MadeNames.{made_names_are_names}
use Rattle.rules_elements_laws.proofs.laws.key_laws.Goals as goal

pub returns-clause-free : goal.returns-clause-free
returns-clause-free c = free_is_free

pub returns-clause-fit : goal.returns-clause-fit
returns-clause-fit c = indexes_are_fit

pub returns-clause-made : goal.returns-clause-made
returns-clause-made c = made_names_are_names
