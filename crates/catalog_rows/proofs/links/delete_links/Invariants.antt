use Rattle.std.proofs.Common.{◌≡◌, false, take}
use Rattle.dd_names.specs.declared.object_name.ObjName.{ObjName}
use Rattle.catalog_rows.specs.Lists.{numbered, link_rows}
use Rattle.catalog_rows.specs.Changes.{is_among}
use Rattle.catalog_rows.specs.Adding.{Taken}
use Rattle.catalog_rows.proofs.links.delete_links.Given as goal

abbrev pub invariant-each : goal.invariant-each
invariant-each l = record {
  unframed : l.batch.is_framed ≡ false;
  place : l.place ≡ l.key-index;
  taken : (name : ObjName) → Taken l.fn.batch l.batch (λ q. is_among q (numbered (link_rows name l.schema l.id) 0 (take l.key-index l.keys)));
}
