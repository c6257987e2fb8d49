use Rattle.row_store.proofs.Opened.{only_rows, no_file, no_form}
use Rattle.row_store.specs.Entries.{rows_of}
use Rattle.row_store.proofs.opening.read.Goals as goal

pub returns-in-Ok-rows_from-clause-only : goal.returns-in-Ok-rows_from-clause-only
returns-in-Ok-rows_from-clause-only g c =
    only_rows (g.D.Disk.story c.args.disk.now) c.args.path.now c.in-Ok.opened.batches.items c.deref.result.now (rows_of c.in-Ok-rows_from.rows.items) c.in-Ok.ensures.found c.deref.ensures.value c.in-Ok-rows_from.ensures.rows

pub returns-in-Err-Malformed-clause-only : goal.returns-in-Err-Malformed-clause-only
returns-in-Err-Malformed-clause-only g c =
    no_file (g.D.Disk.story c.args.disk.now) c.args.path.now c.in-Err-Malformed.field-0 c.in-Err-Malformed.field-0-0 c.in-Err-Malformed.field-0-is c.in-Err-Malformed.ensures.found

pub returns-in-Err-Malformed-clause-refused : goal.returns-in-Err-Malformed-clause-refused
returns-in-Err-Malformed-clause-refused g c =
    no_form (g.D.Disk.story c.args.disk.now) c.args.path.now c.in-Err-Malformed.field-0 c.in-Err-Malformed.field-0-0 c.in-Err-Malformed.field-0-is c.requires c.in-Err-Malformed.ensures.found
