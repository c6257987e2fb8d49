use Rattle.rules_valid.proofs.Drops.{drop_database_keeps}
use Rattle.rules_valid.proofs.Schemas.{create_keeps}
use Rattle.rules_valid.proofs.laws.schemas_keep_valid.Goals as goal

pub returns-clause-created : goal.returns-clause-created
returns-clause-created c = create_keeps

pub returns-clause-dropped : goal.returns-clause-dropped
returns-clause-dropped c = drop_database_keeps
