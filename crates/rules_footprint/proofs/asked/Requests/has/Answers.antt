use Rattle.std.proofs.Common.{◌∙◌, ap}
use Rattle.metadata_locks.specs.Held.{ask_for}
use Rattle.metadata_locks.specs.declared.request.LockKey.{LockKey}
use Rattle.rules_locks.specs.Holdings.{holding}
use Rattle.rules_footprint.specs.Coded.{requests_of}
use Rattle.rules_footprint.proofs.Has.{has_is}
use Rattle.rules_footprint.proofs.asked.Requests.has.Goals as goal

pub returns : goal.returns
unfolding holding
returns c =
    c.contains.ensures ∙ has_is (requests_of c.args.self.now) c.in_ok-key.key c.args.mode
    ∙ ap (λ (key : LockKey). ask_for (requests_of c.args.self.now) key c.args.mode) c.in_ok-key.ensures
