use Rattle.std.proofs.Common.{arith}
use Rattle.catalog_rows.specs.Lists.{link_rows}
use Rattle.catalog_rows.specs.Adding.{Anything}
use Rattle.catalog_rows.proofs.Adding.{begins, anything_goes_on, ends}
use Rattle.catalog_rows.proofs.links.put_links.Goals as goal

pub each-init : goal.each-init
each-init c = begins Anything c.args.batch.now (link_rows c.args.name.now c.args.schema c.args.id) c.args.keys.now c.requires.open

pub each-preserved : goal.each-preserved
each-preserved c = anything_goes_on c.args.batch.now c.each.batch c.put_link.new.batch (link_rows c.args.name.now c.args.schema c.args.id) c.args.keys.now c.each.key-index c.each.place c.key-item.result c.each-test.true c.key-item.is c.each.invariant c.in_ok-put_link.ensures

pub returns : goal.returns
returns c = ends Anything c.args.batch.now c.each.batch (link_rows c.args.name.now c.args.schema c.args.id) c.args.keys.now c.each.key-index c.each.place c.each-test.false (omega arith) c.each.invariant
