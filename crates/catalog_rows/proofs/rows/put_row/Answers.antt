use Rattle.std.proofs.Common.{rules}
use Rattle.catalog_rows.specs.Owners.{row}
use Rattle.catalog_rows.proofs.Adding.{added_put}
use Rattle.catalog_rows.proofs.rows.put_row.Goals as goal

pub returns : goal.returns
returns c = added_put c.put.result c.args.batch.now c.put.new.self (row c.args.tag c.args.key.now c.args.value.now) _ _ (search rules) (search rules) c.put.ensures.ok
