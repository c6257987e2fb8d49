use Rattle.std.proofs.Common.{ap, ℕ, [], ◌∷◌, ◌||◌, List, sym}
use Rattle.row_batch.specs.Rows.{is_key}
use Rattle.row_fields.specs.declared.fields.Field.TheVariants.{Long, Ended}
use Rattle.dd_catalog.specs.Catalog.{View}
use Rattle.catalog_rows.specs.Owners.{Owner, ObjectIs, key_bytes, key_of}
use Rattle.catalog_rows.specs.Changes.{is_erased, is_inside}
use Rattle.catalog_rows.proofs.Adding.{or_false, taken_two}
use Rattle.catalog_rows.proofs.erasing.erase_view.Goals as goal

pub returns : goal.returns
returns c parts =
    let owner : Owner = ObjectIs c.args.name.now c.args.schema c.args.id (View parts) in
    let named : List ℕ = key_bytes (key_of 2 (Long c.args.schema ∷ Ended c.args.name.now.name ∷ [])) in
    taken_two c.delete_name.result c.args.batch.now c.delete_inside.new.batch c.delete_name.new.batch (is_inside owner) (λ q. is_key q named) (is_erased owner)
    (λ key. ap (λ b. is_inside owner key || b) (sym (or_false (is_key key named)))) c.in_ok-delete_inside.ensures c.delete_name.ensures
