use Rattle.sql_pieces.proofs.Joins.{join, join_1}
use Rattle.sql_text.proofs.columns.put_column.Goals as goal

pub returns : goal.returns
returns c = join_1 c.in_ok-put_name.ensures (join c.in_ok-put_type.ensures c.in_ok-put_attributes.ensures)
