use Rattle.std.proofs.Common.{rules, ℕ, ◌∙◌, ◌&&◌, ◌||◌, ◌==◌, ap}
use Rattle.std.specs.Prelude.{Result, Ok, Err, OnOk, OnErr}
use Rattle.std.specs.Ordering.{nat_cmp}
use Rattle.std.specs.BTreeMap as tree
use Rattle.std.specs.BTreeMap.{BTreeMap}
use Rattle.metadata_locks.specs.Modes.{has}
use Rattle.metadata_locks.specs.Held.{Held, ask_for, modes_held}
use Rattle.metadata_locks.proofs.Sessions.{locked, unchanged}
use Rattle.metadata_locks.proofs.locks.Locks.lock_all.Goals as goal

pub returns-in-None-clause-same : goal.returns-in-None-clause-same
returns-in-None-clause-same c other key mode =
    ap (λ (sessions : BTreeMap ℕ Held). has (modes_held (tree.get nat_cmp sessions other) key) mode) c.get_mut.follows.holds-at-none
    ∙ c.make_session.ensures.same other key mode

where_ok : {A E P Q : Type 0} → (r : Result A E) → OnOk r P → (P → Q) → OnOk r Q
where_ok (Ok a) p f = f p
where_ok (Err e) p f = tt

where_err : {A E P Q : Type 0} → (r : Result A E) → OnErr r P → (P → Q) → OnErr r Q
where_err (Ok a) p f = tt
where_err (Err e) p f = f p

pub returns-in-Some-clause-granted : goal.returns-in-Some-clause-granted
returns-in-Some-clause-granted c = where_ok c.lock_held.result c.lock_held.ensures.granted (λ granted other key mode.
    locked c.make_session.new.self.sessions (c.get_mut.follows.lender c.lock_held.new.held) c.args.session c.in-Some.held.now c.lock_held.new.held (ask_for c.args.requests.now)
    (record { at = ((c.get_mut.follows.holds c.lock_held.new.held).3 (search rules)).0 }) c.in-Some.ensures.value granted other key mode
    ∙ ap (λ h. (other == c.args.session && ask_for c.args.requests.now key mode) || h) (c.make_session.ensures.same other key mode))

pub returns-in-Some-clause-same : goal.returns-in-Some-clause-same
returns-in-Some-clause-same c = where_err c.lock_held.result c.lock_held.ensures.same (λ same other key mode.
    unchanged c.make_session.new.self.sessions (c.get_mut.follows.lender c.lock_held.new.held) c.args.session c.in-Some.held.now c.lock_held.new.held
    (record { at = ((c.get_mut.follows.holds c.lock_held.new.held).3 (search rules)).0 }) c.in-Some.ensures.value same other key mode
    ∙ c.make_session.ensures.same other key mode)
