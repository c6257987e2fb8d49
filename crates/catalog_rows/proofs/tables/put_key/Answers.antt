use Rattle.catalog_rows.proofs.Owned.{key_added}
use Rattle.catalog_rows.proofs.tables.put_key.Goals as goal

pub returns : goal.returns
returns c =
    key_added c.put_key_columns.result c.args.batch.now c.put_key_row.new.batch c.put_key_columns.new.batch c.args.columns.now c.args.id c.args.place c.args.key.now c.as_slice-names.result.now c.as_slice-parents.result.now
    c.as_slice-names.ensures c.as_slice-parents.ensures c.in_ok-put_key_row.ensures.added c.in_ok-put_key_row.ensures.name c.in_ok-put_key_row.ensures.schema c.in_ok-put_key_row.ensures.parent c.put_key_columns.ensures
