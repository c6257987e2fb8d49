use Rattle.base_tests.proofs.Computed.{texts_made, numbers_told, errors_known}
use Rattle.base_tests.proofs.judged.texts_are_judged.Goals as goal

pub returns-clause-texts : goal.returns-clause-texts
returns-clause-texts c = texts_made

pub returns-clause-numbers : goal.returns-clause-numbers
returns-clause-numbers c = numbers_told

pub returns-clause-known : goal.returns-clause-known
returns-clause-known c = errors_known
