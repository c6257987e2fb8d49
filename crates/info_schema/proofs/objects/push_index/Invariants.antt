use Rattle.info_schema.specs.Tables.{statistics_row}
use Rattle.info_schema.proofs.Rows.{IsWhole}
use Rattle.info_schema.proofs.objects.push_index.Given as goal

abbrev pub invariant-places : goal.invariant-places
invariant-places l = IsWhole (statistics_row l.name l.index) l.columns l.place l.rows l.fn.rows
