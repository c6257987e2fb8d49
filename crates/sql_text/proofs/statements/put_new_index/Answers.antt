use Rattle.sql_pieces.proofs.Joins.{adds, join, join_1}
use Rattle.sql_text.proofs.statements.put_new_index.Goals as goal

pub returns : goal.returns
returns c = join c.in_ok-put_unique_index.ensures (join_1 (adds c.in_ok-push_str.ensures.ok) (join_1 c.in_ok-put_name.ensures c.in_ok-put_indexed.ensures))
