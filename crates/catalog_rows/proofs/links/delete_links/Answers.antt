use Rattle.std.proofs.Common.{◌+◌, refl, ap}
use Rattle.catalog_rows.specs.Lists.{link_rows}
use Rattle.catalog_rows.proofs.Adding.{taken_nothing, links_one, links_all}
use Rattle.catalog_rows.proofs.links.delete_links.Goals as goal

pub each-init : goal.each-init
each-init c = record { unframed = c.requires.open; place = refl; taken = λ name. taken_nothing c.args.batch.now c.requires.open }

pub delete_link-requires : goal.delete_link-requires
delete_link-requires c = record { «open» = c.each.invariant.unframed }

pub each-preserved : goal.each-preserved
each-preserved c = record {
  unframed = (c.in_ok-delete_link.ensures c.key-item.result.parent).unframed;
  place = ap (λ n. n + 1) c.each.invariant.place;
  taken = λ name. links_one (link_rows name c.args.schema c.args.id) c.args.batch.now c.each.batch c.delete_link.new.batch c.args.keys.now c.each.key-index c.each.place c.key-item.result c.each-test.true c.key-item.is c.each.invariant.place
      (c.each.invariant.taken name) (c.in_ok-delete_link.ensures name);
}

pub returns : goal.returns
returns c = λ name. links_all (link_rows name c.args.schema c.args.id) c.args.batch.now c.each.batch c.args.keys.now c.each.key-index c.each-test.false (c.each.invariant.taken name)
