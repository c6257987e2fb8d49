use Rattle.sql_pieces.proofs.Joins.{adds, join_2}
use Rattle.sql_text.proofs.actions.put_rename_index.Goals as goal

pub returns : goal.returns
returns c = join_2 (adds c.in_ok-push_str.ensures.ok) c.in_ok-put_name_to_name.ensures
