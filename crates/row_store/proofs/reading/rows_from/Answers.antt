use Rattle.row_journal.specs.Opening.{operations_of}
use Rattle.row_store.proofs.Effects.{rows_made}
use Rattle.row_store.proofs.reading.rows_from.Goals as goal

pub returns-in-Ok-clause-rows : goal.returns-in-Ok-clause-rows
returns-in-Ok-clause-rows c = (rows_made (operations_of c.args.batches.now) c.in-Ok.effect.gone.items c.in-Ok.effect.rows.items c.rows_of.result.items c.requires c.in-Ok.ensures c.rows_of.ensures).1
