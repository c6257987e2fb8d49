use Rattle.sql_pieces.proofs.Joins.{join}
use Rattle.sql_text.proofs.statements.put_new_table.Goals as goal

pub returns : goal.returns
returns c = join c.in_ok-put_if_not_exists.ensures (join c.in_ok-put_object.ensures c.in_ok-put_body.ensures)
