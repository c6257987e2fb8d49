use Rattle.std.proofs.Common.{arith}
use Rattle.catalog_rows.specs.Lists.{index_rows}
use Rattle.catalog_rows.specs.Stands.{FitsIndex}
use Rattle.catalog_rows.proofs.Adding.{begins, goes_on, ends}
use Rattle.catalog_rows.proofs.tables.put_indexes.Goals as goal

pub each-init : goal.each-init
each-init c = begins FitsIndex c.args.batch.now (index_rows c.args.columns.now c.args.id) c.args.indexes.now c.requires.open

pub each-preserved : goal.each-preserved
each-preserved c = goes_on FitsIndex c.args.batch.now c.each.batch c.put_index.new.batch (index_rows c.args.columns.now c.args.id) c.args.indexes.now c.each.index-index c.each.place c.index-item.result c.each-test.true c.index-item.is c.each.invariant c.in_ok-put_index.ensures

pub returns : goal.returns
returns c = ends FitsIndex c.args.batch.now c.each.batch (index_rows c.args.columns.now c.args.id) c.args.indexes.now c.each.index-index c.each.place c.each-test.false (omega arith) c.each.invariant
