use Rattle.std.proofs.Common.{◌≤◌, rules, length, arith}
use Rattle.metadata_locks.proofs.Together.{conflict_here, conflict_later, conflict_none}
use Rattle.metadata_locks.proofs.conflicts.first_conflict.Goals as goal

pub returns-in-Some : goal.returns-in-Some
returns-in-Some c =
    conflict_here c.args.locks.now c.args.session c.args.requests.now c.places.place c.index-requests-place.result c.in-Some.holder c.places-test.true c.index-requests-place.is
    c.in-Some.ensures c.places.invariant

pub places-preserved : goal.places-preserved
places-preserved c =
    conflict_later c.args.locks.now c.args.session c.args.requests.now c.places.place c.index-requests-place.result c.places-test.true c.index-requests-place.is
    (search rules) c.places.invariant

pub returns : goal.returns
returns c =
    let le : length c.args.requests.now ≤ c.places.place = omega arith in
    conflict_none c.args.locks.now c.args.session c.args.requests.now c.places.place le c.places.invariant
