use Rattle.sql_pieces.proofs.Joins.{join}
use Rattle.sql_text.proofs.keys.put_parent.Goals as goal

pub returns : goal.returns
returns c = join c.in_ok-put_object.ensures (join c.in_ok-put_names.ensures (join c.in_ok-put_on_delete.ensures c.in_ok-put_on_update.ensures))
