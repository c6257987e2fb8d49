use Rattle.sql_pieces.proofs.Joins.{adds, join, join_1}
use Rattle.sql_text.proofs.views.put_select.Goals as goal

pub returns : goal.returns
returns c = join_1 (adds c.in_ok-push_str.ensures.ok) (join c.in_ok-put_divided.ensures (join_1 (adds c.in_ok-push_str-2.ensures.ok) c.in_ok-put_divided-2.ensures))
