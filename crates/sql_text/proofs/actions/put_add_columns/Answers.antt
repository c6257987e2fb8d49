use Rattle.sql_pieces.proofs.Joins.{adds, join, join_2}
use Rattle.sql_text.proofs.actions.put_add_columns.Goals as goal

pub returns : goal.returns
returns c = join_2 (adds c.in_ok-push_str.ensures.ok) (join c.in_ok-put_divided.ensures (adds c.in_ok-push_str-2.ensures.ok))
