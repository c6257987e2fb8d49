use Rattle.rules_elements_laws.proofs.KeysFit.{foreign_keys_are_fit}
use Rattle.rules_elements_laws.proofs.WellSpelled.{well_spelled}
use Rattle.rules_elements_laws.proofs.WrittenAgain.{named_as_written}
use Rattle.rules_elements_laws.proofs.laws.foreign_key_laws.Goals as goal

pub returns-clause-fit : goal.returns-clause-fit
returns-clause-fit c = foreign_keys_are_fit

pub returns-clause-parents : goal.returns-clause-parents
returns-clause-parents c = well_spelled

pub returns-clause-written : goal.returns-clause-written
returns-clause-written c = named_as_written
