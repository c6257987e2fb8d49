use Rattle.catalog_rows.proofs.Owned.{index_added}
use Rattle.catalog_rows.proofs.tables.put_index.Goals as goal

pub returns : goal.returns
returns c =
    index_added c.put_index_columns.result c.args.batch.now c.put_index_row.new.batch c.put_index_columns.new.batch c.args.columns.now c.args.id c.args.place c.args.index.now c.as_slice.result.now c.as_slice.ensures
    c.in_ok-put_index_row.ensures.added c.in_ok-put_index_row.ensures.name c.put_index_columns.ensures
