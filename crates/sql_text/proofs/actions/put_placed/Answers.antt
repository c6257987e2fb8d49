use Rattle.sql_pieces.proofs.Joins.{join}
use Rattle.sql_text.proofs.actions.put_placed.Goals as goal

pub returns : goal.returns
returns c = join c.in_ok-put_column.ensures c.in_ok-put_place.ensures
