use Rattle.std.proofs.Common.{◌≡◌, Bool, true, false, ◌==◌, sym, ◌∙◌, if◌then◌else◌}
use Rattle.std.proofs.lemmas.Bool.{true≢false}
use Rattle.metadata_locks.specs.declared.locks.Locks.{Locks}
use Rattle.metadata_locks.specs.Held.{holds}
use Rattle.metadata_locks.proofs.Sessions.{released}
use Rattle.metadata_locks.proofs.Together.{fewer_together}
use Rattle.metadata_locks.proofs.locks.Locks.release_all.Goals as goal

pub returns-clause-released : goal.returns-clause-released
returns-clause-released c other key mode = released c.args.self.now.sessions c.remove.new.self c.args.session (record { at = c.remove.ensures.updates.0 }) other key mode

fewer : (b held : Bool) → (if b then false else held) ≡ true → held ≡ true
fewer true held e = absurd (true≢false (sym e))
fewer false held e = e

pub returns-clause-compatible : goal.returns-clause-compatible
returns-clause-compatible c compatible =
    let new : Locks = record { alloc = c.args.self.now.alloc; sessions = c.remove.new.self } in
    fewer_together c.args.self.now new
    (λ other key mode held. fewer (other == c.args.session) (holds c.args.self.now other key mode)
    (sym (released c.args.self.now.sessions c.remove.new.self c.args.session (record { at = c.remove.ensures.updates.0 }) other key mode) ∙ held))
    compatible
