use Rattle.std.specs.Prelude.{[]}
use Rattle.std.proofs.Common.{rules, take}
use Rattle.rules_schema.specs.Drops.{first_twice}
use Rattle.rules_schema.proofs.Twice.{stood_before, next_place, was_among, not_among, has_taken}
use Rattle.rules_schema.proofs.name_sets.first_twice.Goals as goal

pub returns-then-not-branch : goal.returns-then-not-branch
returns-then-not-branch c =
    let objects = c.args.objects.now in
    let place = c.places.place in
    let object = c.index-objects-place.result in
    stood_before objects place object (first_twice [] objects) c.places-test.true c.index-objects-place.is
    (was_among c.places.seen (take place objects) object c.in_ok-copy.field-0 c.in_ok-insert.field-0 (search rules) c.places.invariant.1 c.in_ok-insert.ensures.added c.if-not-branch.true)
    c.places.invariant.0

pub places-preserved : goal.places-preserved
places-preserved c =
    let objects = c.args.objects.now in
    let place = c.places.place in
    let object = c.index-objects-place.result in
    let key = c.in_ok-copy.field-0 in (
      next_place objects place object (first_twice [] objects) c.places-test.true c.index-objects-place.is
          (not_among c.places.seen (take place objects) object key c.in_ok-insert.field-0 (search rules) c.places.invariant.1 c.in_ok-insert.ensures.added c.if-not-branch.false)
          c.places.invariant.0,
      has_taken c.places.seen c.insert.new.self objects place object key c.places-test.true c.index-objects-place.is (search rules) c.places.invariant.1 c.in_ok-insert.ensures.updates.0,
    )
