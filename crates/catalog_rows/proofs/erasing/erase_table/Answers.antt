use Rattle.std.proofs.Common.{◌∙◌, ap, subst, ℕ, [], ◌∷◌, List}
use Rattle.std.specs.Prelude.{OnOk}
use Rattle.row_batch.specs.Rows.{is_key}
use Rattle.dd_definitions.specs.declared.parts.TableParts.{TableParts}
use Rattle.dd_definitions.specs.declared.foreign_keys.ForeignKeyDef.{ForeignKeyDef}
use Rattle.row_fields.specs.declared.fields.Field.TheVariants.{Long, Ended}
use Rattle.dd_catalog.specs.Catalog.{Table}
use Rattle.catalog_rows.specs.Owners.{Owner, ObjectIs, key_bytes, key_of}
use Rattle.catalog_rows.specs.Lists.{link_rows, links_of, numbered}
use Rattle.catalog_rows.specs.Changes.{is_among, is_erased, is_inside}
use Rattle.catalog_rows.specs.Adding.{Taken}
use Rattle.catalog_rows.proofs.Adding.{or_moved, taken_three}
use Rattle.catalog_rows.proofs.erasing.erase_table.Goals as goal

pub returns : goal.returns
returns c space =
    let owner : Owner = ObjectIs c.args.name.now c.args.schema c.args.id (Table space c.args.def.now) in
    let named : List ℕ = key_bytes (key_of 2 (Long c.args.schema ∷ Ended c.args.name.now.name ∷ [])) in
    let same = c.as_slice-keys.ensures ∙ ap (λ (p : TableParts). p.foreign_keys) c.parts.ensures in
    taken_three c.delete_links.result c.args.batch.now c.delete_inside.new.batch c.delete_name.new.batch c.delete_links.new.batch (is_inside owner) (λ q. is_key q named) (λ q. is_among q (links_of owner)) (is_erased owner)
    (λ key. or_moved (is_inside owner key) (is_key key named) (is_among key (links_of owner)))
    c.in_ok-delete_inside.ensures c.in_ok-delete_name.ensures
    (subst (λ (keys : List ForeignKeyDef). OnOk c.delete_links.result (Taken c.delete_name.new.batch c.delete_links.new.batch (λ q. is_among q (numbered (link_rows c.args.name.now c.args.schema c.args.id) 0 keys)))) same (c.delete_links.ensures c.args.name.now))
