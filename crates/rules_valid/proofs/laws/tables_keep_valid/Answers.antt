use Rattle.rules_valid.proofs.Drops.{drop_table_keeps}
use Rattle.rules_valid.proofs.Emptied.{truncate_keeps}
use Rattle.rules_valid.proofs.Likes.{create_like_keeps}
use Rattle.rules_valid.proofs.Tables.{create_table_keeps}
use Rattle.rules_valid.proofs.laws.tables_keep_valid.Goals as goal

pub returns-clause-created : goal.returns-clause-created
returns-clause-created c = create_table_keeps

pub returns-clause-dropped : goal.returns-clause-dropped
returns-clause-dropped c = drop_table_keeps

pub returns-clause-liked : goal.returns-clause-liked
returns-clause-liked c = create_like_keeps

pub returns-clause-emptied : goal.returns-clause-emptied
returns-clause-emptied c = truncate_keeps
