use Rattle.sql_pieces.proofs.Joins.{adds, join, join_1}
use Rattle.sql_text.proofs.statements.put_view.Goals as goal

pub returns : goal.returns
returns c = join c.in_ok-put_view_columns.ensures (join_1 (adds c.in_ok-push_str.ensures.ok) c.in_ok-put_select.ensures)
