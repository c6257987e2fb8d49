use Rattle.sql_pieces.proofs.Joins.{adds, join, join_1}
use Rattle.sql_text.proofs.statements.put_elements.Goals as goal

pub returns : goal.returns
returns c = join_1 (adds c.in_ok-push_str.ensures.ok) (join c.in_ok-put_divided.ensures (adds c.in_ok-push_str-2.ensures.ok))
