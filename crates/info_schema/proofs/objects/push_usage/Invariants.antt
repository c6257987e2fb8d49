use Rattle.info_schema.specs.Tables.{usage_row}
use Rattle.info_schema.proofs.Rows.{IsWhole}
use Rattle.info_schema.proofs.objects.push_usage.Given as goal

abbrev pub invariant-places : goal.invariant-places
invariant-places l = IsWhole (usage_row l.name l.key) l.columns l.place l.rows l.fn.rows
