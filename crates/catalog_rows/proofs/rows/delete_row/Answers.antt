use Rattle.std.proofs.Common.{rules}
use Rattle.catalog_rows.specs.Owners.{key_bytes, key_of}
use Rattle.catalog_rows.proofs.Adding.{taken_delete}
use Rattle.catalog_rows.proofs.rows.delete_row.Goals as goal

pub returns : goal.returns
returns c = taken_delete c.delete.result c.args.batch.now c.delete.new.self _ (key_bytes (key_of c.args.tag c.args.key.now)) (search rules) c.delete.ensures.ok
