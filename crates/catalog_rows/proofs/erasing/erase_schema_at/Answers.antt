use Rattle.catalog_rows.proofs.erasing.erase_schema_at.Goals as goal

pub returns-in-Schema : goal.returns-in-Schema
returns-in-Schema c = rw c.in-Schema.is (c.erase_schema.ensures c.args.id)
