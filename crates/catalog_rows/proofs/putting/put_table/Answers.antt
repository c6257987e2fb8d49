use Rattle.std.proofs.Common.{◌∙◌, ap, subst, List}
use Rattle.dd_definitions.specs.declared.columns.ColumnDef.{ColumnDef}
use Rattle.dd_definitions.specs.declared.foreign_keys.ForeignKeyDef.{ForeignKeyDef}
use Rattle.dd_definitions.specs.declared.indexes.IndexDef.{IndexDef}
use Rattle.dd_definitions.specs.declared.parts.TableParts.{TableParts}
use Rattle.catalog_rows.specs.Lists.{column_rows, index_rows, key_rows, link_rows, numbered}
use Rattle.catalog_rows.specs.Adding.{Added, AddedEach, Anything}
use Rattle.catalog_rows.proofs.Groups.{table_added, on_ok}
use Rattle.catalog_rows.proofs.putting.put_table.Goals as goal

pub returns-clause-added : goal.returns-clause-added
returns-clause-added c =
    let columns = c.as_slice-columns.ensures ∙ ap (λ (p : TableParts). p.columns) c.parts-parts.ensures in
    let indexes = c.as_slice-indexes.ensures ∙ ap (λ (p : TableParts). p.indexes) c.parts-parts.ensures in
    let keys = c.as_slice-keys.ensures ∙ ap (λ (p : TableParts). p.foreign_keys) c.parts-parts.ensures in
    let of_columns = subst (λ (cs : List ColumnDef). Added c.put_table_name.new.batch c.put_columns.new.batch (numbered (column_rows c.args.id) 0 cs)) columns c.in_ok-put_columns.ensures.added in
    let of_indexes = subst (λ (is : List IndexDef). Added c.put_columns.new.batch c.put_indexes.new.batch (numbered (index_rows c.args.def.now.columns c.args.id) 0 is)) indexes
    (subst (λ (cs : List ColumnDef). Added c.put_columns.new.batch c.put_indexes.new.batch (numbered (index_rows cs c.args.id) 0 c.as_slice-indexes.result.now)) columns c.in_ok-put_indexes.ensures.added) in
    let of_keys = subst (λ (ks : List ForeignKeyDef). Added c.put_indexes.new.batch c.put_keys.new.batch (numbered (key_rows c.args.def.now.columns c.args.id) 0 ks)) keys
    (subst (λ (cs : List ColumnDef). Added c.put_indexes.new.batch c.put_keys.new.batch (numbered (key_rows cs c.args.id) 0 c.as_slice-keys.result.now)) columns c.in_ok-put_keys.ensures.added) in
    let links = on_ok c.put_links.result (AddedEach Anything c.put_keys.new.batch c.put_links.new.batch (link_rows c.args.name.now c.args.schema c.args.id) c.as_slice-keys.result.now)
    (Added c.put_keys.new.batch c.put_links.new.batch (numbered (link_rows c.args.name.now c.args.schema c.args.id) 0 c.args.def.now.foreign_keys))
    (λ each. subst (λ (ks : List ForeignKeyDef). Added c.put_keys.new.batch c.put_links.new.batch (numbered (link_rows c.args.name.now c.args.schema c.args.id) 0 ks)) keys each.added) c.put_links.ensures in
    table_added c.put_links.result c.args.name.now c.args.schema c.args.id c.args.space c.args.def.now c.args.batch.now c.put_table_name.new.batch c.put_columns.new.batch c.put_indexes.new.batch c.put_keys.new.batch c.put_links.new.batch
    c.in_ok-put_table_name.ensures.added of_columns of_indexes of_keys links
