use Rattle.sql_pieces.proofs.Joins.{adds, join_1}
use Rattle.sql_text.proofs.actions.put_drop_default.Goals as goal

pub returns : goal.returns
returns c = join_1 (adds c.in_ok-push_str.ensures.ok) (join_1 c.in_ok-put_name.ensures (adds c.in_ok-push_str-2.ensures.ok))
