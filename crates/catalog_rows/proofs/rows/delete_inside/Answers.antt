use Rattle.std.proofs.Common.{refl}
use Rattle.catalog_rows.specs.Changes.{is_of}
use Rattle.catalog_rows.proofs.Adding.{taken_nothing, taken_one, taken_all}
use Rattle.catalog_rows.proofs.rows.delete_inside.Goals as goal

pub each-init : goal.each-init
each-init c = taken_nothing c.args.batch.now c.requires.open

pub each-preserved : goal.each-preserved
each-preserved c = taken_one (λ tag. is_of tag c.args.id) c.args.batch.now c.each.batch c.delete_under.new.batch c.args.tags.now c.each.tag-index _ 0 c.each-test.true refl c.each.invariant c.in_ok-delete_under.ensures

pub returns : goal.returns
returns c = taken_all (λ tag. is_of tag c.args.id) c.args.batch.now c.each.batch c.args.tags.now c.each.tag-index c.each-test.false c.each.invariant
