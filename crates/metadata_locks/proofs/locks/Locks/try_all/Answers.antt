use Rattle.std.proofs.Common.{sym, ◌∙◌}
use Rattle.metadata_locks.proofs.Together.{stays_together, fewer_together}
use Rattle.metadata_locks.proofs.locks.Locks.try_all.Goals as goal

pub returns-in-Some-clause-conflict : goal.returns-in-Some-clause-conflict
returns-in-Some-clause-conflict c = sym c.in-Some.ensures

pub returns-in-Ok-clause-conflict : goal.returns-in-Ok-clause-conflict
returns-in-Ok-clause-conflict c = sym c.in-None.ensures

pub returns-in-Ok-clause-compatible : goal.returns-in-Ok-clause-compatible
returns-in-Ok-clause-compatible c =
    stays_together c.args.self.now c.lock_all.new.self c.args.session c.args.requests.now (sym c.in-None.ensures) c.in-Ok.ensures.granted

pub returns-in-Err-clause-conflict : goal.returns-in-Err-clause-conflict
returns-in-Err-clause-conflict c = sym c.in-None.ensures

pub returns-in-Err-clause-compatible : goal.returns-in-Err-clause-compatible
returns-in-Err-clause-compatible c = fewer_together c.args.self.now c.lock_all.new.self (λ other key mode held. sym (c.in-Err.ensures.same other key mode) ∙ held)
