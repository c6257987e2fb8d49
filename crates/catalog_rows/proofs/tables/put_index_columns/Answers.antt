use Rattle.std.proofs.Common.{arith}
use Rattle.catalog_rows.specs.Lists.{index_column_rows}
use Rattle.catalog_rows.specs.Adding.{Anything}
use Rattle.catalog_rows.proofs.Adding.{begins, anything_goes_on, ends}
use Rattle.catalog_rows.proofs.tables.put_index_columns.Goals as goal

pub each-init : goal.each-init
each-init c = begins Anything c.args.batch.now (index_column_rows c.args.columns.now c.args.id c.args.index) c.args.names.now c.requires.open

pub each-preserved : goal.each-preserved
each-preserved c = anything_goes_on c.args.batch.now c.each.batch c.put_index_column.new.batch (index_column_rows c.args.columns.now c.args.id c.args.index) c.args.names.now c.each.name-index c.each.place c.name-item.result c.each-test.true c.name-item.is c.each.invariant c.in_ok-put_index_column.ensures

pub returns : goal.returns
returns c = ends Anything c.args.batch.now c.each.batch (index_column_rows c.args.columns.now c.args.id c.args.index) c.args.names.now c.each.name-index c.each.place c.each-test.false (omega arith) c.each.invariant
