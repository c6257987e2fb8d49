use Rattle.sql_pieces.proofs.Joins.{begun, adds, join_1}
use Rattle.sql_text.specs.Parts.{word}
use Rattle.sql_text.proofs.texts.drop_index.Goals as goal

pub returns : goal.returns
returns c = begun c.in_ok-out.ensures (join_1 c.in_ok-put_name.ensures (join_1 {p = word "ON"} (adds c.in_ok-push_str.ensures.ok) c.in_ok-put_object.ensures))
