use Rattle.std.proofs.Common.{arith}
use Rattle.catalog_rows.specs.Lists.{column_rows}
use Rattle.catalog_rows.specs.Stands.{FitsColumn}
use Rattle.catalog_rows.proofs.Adding.{begins, goes_on, ends}
use Rattle.catalog_rows.proofs.tables.put_columns.Goals as goal

pub each-init : goal.each-init
each-init c = begins FitsColumn c.args.batch.now (column_rows c.args.id) c.args.columns.now c.requires.open

pub each-preserved : goal.each-preserved
each-preserved c = goes_on FitsColumn c.args.batch.now c.each.batch c.put_column.new.batch (column_rows c.args.id) c.args.columns.now c.each.column-index c.each.place c.column-item.result c.each-test.true c.column-item.is c.each.invariant c.in_ok-put_column.ensures

pub returns : goal.returns
returns c = ends FitsColumn c.args.batch.now c.each.batch (column_rows c.args.id) c.args.columns.now c.each.column-index c.each.place c.each-test.false (omega arith) c.each.invariant
