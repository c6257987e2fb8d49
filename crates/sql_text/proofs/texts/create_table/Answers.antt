use Rattle.sql_pieces.proofs.Joins.{begun}
use Rattle.sql_text.proofs.texts.create_table.Goals as goal

pub returns : goal.returns
returns c = begun c.in_ok-out.ensures c.in_ok-put_new_table.ensures
