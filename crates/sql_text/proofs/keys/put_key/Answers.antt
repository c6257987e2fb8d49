use Rattle.sql_pieces.proofs.Joins.{join}
use Rattle.sql_text.proofs.keys.put_key.Goals as goal

pub returns : goal.returns
returns c = join c.in_ok-put_constraint.ensures (join c.in_ok-put_class.ensures (join c.in_ok-put_key_name.ensures c.in_ok-put_names.ensures))
