use Rattle.info_schema.specs.Tables.{columns_row}
use Rattle.info_schema.proofs.Rows.{IsWhole}
use Rattle.info_schema.proofs.objects.push_each_column.Given as goal

abbrev pub invariant-places : goal.invariant-places
invariant-places l = IsWhole (columns_row l.parts l.known_by) l.columns l.place l.rows l.fn.rows
