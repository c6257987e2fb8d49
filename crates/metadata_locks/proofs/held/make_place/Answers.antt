use Rattle.std.proofs.Common.{rules}
use Rattle.metadata_locks.proofs.Places.{place_made}
use Rattle.metadata_locks.proofs.held.make_place.Goals as goal

pub returns-in_ok-insert-clause-same : goal.returns-in_ok-insert-clause-same
returns-in_ok-insert-clause-same c = place_made c.args.held.now c.insert.new.self c.args.key.now (record { at = search rules }) (search rules)
