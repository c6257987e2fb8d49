use Rattle.sql_pieces.proofs.Joins.{adds, join, join_1, join_2}
use Rattle.sql_text.proofs.keys.put_reference.Goals as goal

pub returns : goal.returns
returns c = join_2 (adds c.in_ok-push_str.ensures.ok) (join c.in_ok-put_key_name.ensures (join c.in_ok-put_names.ensures (join_1 (adds c.in_ok-push_str-2.ensures.ok) c.in_ok-put_parent.ensures)))
