use Rattle.std.proofs.Common.{◌≤◌, ◌∙◌, rules, length, arith}
use Rattle.metadata_locks.proofs.Places.{makes_next, makes_all}
use Rattle.metadata_locks.proofs.held.make_places.Goals as goal

pub places-preserved : goal.places-preserved
places-preserved c = (
  (λ key. c.in_ok-make_place.ensures.same key ∙ c.places.invariant.0 key),
  makes_next c.places.held c.make_place.new.held c.args.requests.now c.places.place c.index-requests-place.result c.places-test.true c.index-requests-place.is
      c.in_ok-make_place.ensures.others (search rules) c.places.invariant.1,
)

pub returns-clause-places : goal.returns-clause-places
returns-clause-places c =
    let le : length c.args.requests.now ≤ c.places.place = omega arith in
    makes_all c.places.held c.args.requests.now c.places.place le c.places.invariant.1
