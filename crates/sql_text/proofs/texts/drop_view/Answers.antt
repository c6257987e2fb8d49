use Rattle.sql_pieces.proofs.Joins.{begun, join}
use Rattle.sql_text.proofs.texts.drop_view.Goals as goal

pub returns : goal.returns
returns c = begun c.in_ok-out.ensures (join c.in_ok-put_if_exists.ensures c.in_ok-put_divided.ensures)
