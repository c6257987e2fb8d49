use Rattle.std.proofs.Common.{ap}
use Rattle.row_fields.specs.declared.fields.Field.{Field}
use Rattle.std.specs.Prelude.{List}
use Rattle.catalog_rows.specs.Owners.{key_bytes, key_of, constraint_row}
use Rattle.catalog_rows.proofs.Adding.{taken_row}
use Rattle.catalog_rows.proofs.links.delete_constraint.Goals as goal

pub returns : goal.returns
returns c =
    taken_row c.delete_row.result c.args.batch.now c.delete_row.new.batch (constraint_row c.args.schema c.args.id c.args.place c.args.key.now) (key_bytes (key_of 12 c.in_ok-key.key))
    (ap (λ (fields : List Field). key_bytes (key_of 12 fields)) c.in_ok-key.ensures.fields) c.delete_row.ensures
