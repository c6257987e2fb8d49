use Rattle.base_tests.proofs.Computed.{names_judged, names_folded, words_reserved, schemas_of_the_system}
use Rattle.base_tests.proofs.judged.names_are_judged.Goals as goal

pub returns-clause-names : goal.returns-clause-names
returns-clause-names c = names_judged

pub returns-clause-folded : goal.returns-clause-folded
returns-clause-folded c = names_folded

pub returns-clause-reserved : goal.returns-clause-reserved
returns-clause-reserved c = words_reserved

pub returns-clause-systems : goal.returns-clause-systems
returns-clause-systems c = schemas_of_the_system
