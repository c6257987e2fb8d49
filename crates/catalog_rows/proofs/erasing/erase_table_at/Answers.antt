use Rattle.catalog_rows.proofs.erasing.erase_table_at.Goals as goal

pub returns-in-Object : goal.returns-in-Object
returns-in-Object c = rw c.in-Object.is (c.erase_table.ensures c.args.space)
