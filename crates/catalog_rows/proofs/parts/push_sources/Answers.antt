use Rattle.catalog_rows.specs.Stands.{FitsSource}
use Rattle.catalog_rows.specs.Parts.{source_fields}
use Rattle.catalog_rows.proofs.Fitting.{one_fits, one_pushed}
use Rattle.catalog_rows.proofs.parts.push_sources.Goals as goal

pub each-preserved : goal.each-preserved
each-preserved c = record {
  fields = one_pushed source_fields c.args.sources.now c.each.source-index c.source-item.result c.args.fields.now.items c.each.fields.items c.push_source.new.fields.items c.each-test.true c.source-item.is c.each.invariant.fields c.in_ok-push_source.ensures.fields;
  fits = one_fits FitsSource c.args.sources.now c.each.source-index c.source-item.result c.each-test.true c.source-item.is c.each.invariant.fits c.in_ok-push_source.ensures.fits;
}
