use Rattle.catalog_rows.specs.Stands.{FitsOutput}
use Rattle.catalog_rows.specs.Parts.{output_fields}
use Rattle.catalog_rows.proofs.Fitting.{one_fits, one_pushed}
use Rattle.catalog_rows.proofs.parts.push_outputs.Goals as goal

pub each-preserved : goal.each-preserved
each-preserved c = record {
  fields = one_pushed output_fields c.args.outputs.now c.each.output-index c.output-item.result c.args.fields.now.items c.each.fields.items c.push_output.new.fields.items c.each-test.true c.output-item.is c.each.invariant.fields c.in_ok-push_output.ensures.fields;
  fits = one_fits FitsOutput c.args.outputs.now c.each.output-index c.output-item.result c.each-test.true c.output-item.is c.each.invariant.fits c.in_ok-push_output.ensures.fits;
}
