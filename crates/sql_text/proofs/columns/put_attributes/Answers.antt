use Rattle.sql_pieces.proofs.Joins.{join}
use Rattle.sql_text.proofs.columns.put_attributes.Goals as goal

pub returns : goal.returns
returns c = join c.in_ok-put_nullable.ensures (join c.in_ok-put_default.ensures (join c.in_ok-put_auto.ensures (join c.in_ok-put_unique.ensures c.in_ok-put_primary.ensures)))
