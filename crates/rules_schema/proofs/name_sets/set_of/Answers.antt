use Rattle.std.proofs.Common.{◌≤◌, rules, length, arith}
use Rattle.rules_schema.proofs.Twice.{has_taken, all_has}
use Rattle.rules_schema.proofs.name_sets.set_of.Goals as goal

pub places-preserved : goal.places-preserved
places-preserved c =
    has_taken c.places.names c.insert.new.self c.args.objects.now c.places.place c.index-objects-place.result c.in_ok-copy.field-0 c.places-test.true c.index-objects-place.is (search rules) c.places.invariant c.in_ok-insert.ensures.updates.0

pub returns : goal.returns
returns c =
    let le : length c.args.objects.now ≤ c.places.place = omega arith in
    all_has c.places.names c.args.objects.now c.places.place le c.places.invariant
