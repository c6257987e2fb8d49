use Rattle.sql_pieces.proofs.Joins.{join}
use Rattle.sql_text.proofs.keys.put_foreign_key.Goals as goal

pub returns : goal.returns
returns c = join c.in_ok-put_constraint.ensures c.in_ok-put_reference.ensures
