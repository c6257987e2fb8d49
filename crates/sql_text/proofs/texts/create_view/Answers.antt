use Rattle.sql_pieces.proofs.Joins.{begun, join}
use Rattle.sql_text.proofs.texts.create_view.Goals as goal

pub returns : goal.returns
returns c = begun c.in_ok-out.ensures (join c.in_ok-put_object.ensures c.in_ok-put_view.ensures)
