use Rattle.std.proofs.Common.{rules, [], ◌∷◌}
use Rattle.row_fields.specs.declared.fields.Field.TheVariants.{Long}
use Rattle.catalog_rows.specs.Owners.{key_bytes, key_of}
use Rattle.catalog_rows.proofs.Adding.{taken_under}
use Rattle.catalog_rows.proofs.rows.delete_under.Goals as goal

pub returns : goal.returns
returns c = taken_under c.delete_prefix.result c.args.batch.now c.delete_prefix.new.self _ (key_bytes (key_of c.args.tag (Long c.args.id ∷ []))) (search rules) c.delete_prefix.ensures.ok
