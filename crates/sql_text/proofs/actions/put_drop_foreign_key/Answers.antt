use Rattle.sql_pieces.proofs.Joins.{adds, join_3}
use Rattle.sql_text.proofs.actions.put_drop_foreign_key.Goals as goal

pub returns : goal.returns
returns c = join_3 (adds c.in_ok-push_str.ensures.ok) c.in_ok-put_name.ensures
