use Rattle.std.proofs.Common.{◌≤◌, length, arith}
use Rattle.metadata_locks.proofs.Places.{grants_next, grants_all, place_here, places_left}
use Rattle.metadata_locks.proofs.held.grant_all.Goals as goal

pub grant-requires : goal.grant-requires
grant-requires c = record {
  place = place_here c.places.held c.args.requests.now c.places.place c.index-requests-place.result c.places-test.true c.index-requests-place.is c.places.invariant.1;
}

pub places-preserved : goal.places-preserved
places-preserved c =
    let requests = c.args.requests.now in
    let place = c.places.place in
    let request = c.index-requests-place.result in (
      grants_next c.args.held.now c.places.held c.grant.new.held requests place request c.places-test.true c.index-requests-place.is c.grant.ensures.granted c.places.invariant.0,
      places_left c.places.held c.grant.new.held requests place request c.places-test.true c.index-requests-place.is c.grant.ensures.others c.places.invariant.1,
    )

pub returns : goal.returns
returns c =
    let le : length c.args.requests.now ≤ c.places.place = omega arith in
    record { granted = grants_all c.args.held.now c.places.held c.args.requests.now c.places.place le c.places.invariant.0 }
