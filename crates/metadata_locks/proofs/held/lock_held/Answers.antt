use Rattle.std.proofs.Common.{◌||◌, ◌∙◌, ap}
use Rattle.metadata_locks.specs.Modes.{has}
use Rattle.metadata_locks.specs.Held.{ask_for}
use Rattle.metadata_locks.proofs.held.lock_held.Goals as goal

pub returns-clause-granted : goal.returns-clause-granted
returns-clause-granted c key mode =
    c.grant_all.ensures.granted key mode ∙ ap (λ m. ask_for c.args.requests.now key mode || has m mode) (c.make_places.ensures.same key)
