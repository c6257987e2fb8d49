use Rattle.rules_valid.proofs.Altered.{create_index_keeps, create_index_makes, drop_index_keeps, drop_index_makes}
use Rattle.rules_valid.proofs.laws.indexes_keep_valid.Goals as goal

pub returns-clause-created : goal.returns-clause-created
returns-clause-created c = create_index_keeps

pub returns-clause-created_space : goal.returns-clause-created_space
returns-clause-created_space c = create_index_makes

pub returns-clause-dropped : goal.returns-clause-dropped
returns-clause-dropped c = drop_index_keeps

pub returns-clause-dropped_space : goal.returns-clause-dropped_space
returns-clause-dropped_space c = drop_index_makes
