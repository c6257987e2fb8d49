use Rattle.std.proofs.Common.{arith}
use Rattle.catalog_rows.specs.Lists.{key_rows}
use Rattle.catalog_rows.specs.Stands.{FitsKey}
use Rattle.catalog_rows.proofs.Adding.{begins, goes_on, ends}
use Rattle.catalog_rows.proofs.tables.put_keys.Goals as goal

pub each-init : goal.each-init
each-init c = begins FitsKey c.args.batch.now (key_rows c.args.columns.now c.args.id) c.args.keys.now c.requires.open

pub each-preserved : goal.each-preserved
each-preserved c = goes_on FitsKey c.args.batch.now c.each.batch c.put_key.new.batch (key_rows c.args.columns.now c.args.id) c.args.keys.now c.each.key-index c.each.place c.key-item.result c.each-test.true c.key-item.is c.each.invariant c.in_ok-put_key.ensures

pub returns : goal.returns
returns c = ends FitsKey c.args.batch.now c.each.batch (key_rows c.args.columns.now c.args.id) c.args.keys.now c.each.key-index c.each.place c.each-test.false (omega arith) c.each.invariant
