use Rattle.dd_names.proofs.Apart as apart
use Rattle.dd_names.proofs.paths.paths_are_apart.Goals as goal

pub returns-clause-objects : goal.returns-clause-objects
returns-clause-objects c = apart.objects

pub returns-clause-not_temporary : goal.returns-clause-not_temporary
returns-clause-not_temporary c = apart.not_temporary

pub returns-clause-not_dictionary : goal.returns-clause-not_dictionary
returns-clause-not_dictionary c = λ a good same. apart.not_hashed a _ good same

pub returns-clause-not_new_dictionary : goal.returns-clause-not_new_dictionary
returns-clause-not_new_dictionary c = λ a good same. apart.not_hashed a _ good same

pub returns-clause-temporary : goal.returns-clause-temporary
returns-clause-temporary c = apart.temporary
