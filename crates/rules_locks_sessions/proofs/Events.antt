-- What each event of a session leaves of it and of the others.
use Rattle.std.specs.Prelude.{◌≡◌, ◌≢◌, ℕ, Bool, true, false, ◌==◌, List, [], ◌∷◌, ◌++◌, if◌then◌else◌, refl}
use Rattle.std.specs.List.{list_any}
use Rattle.std.proofs.Common.{sym, ◌∙◌, ap, subst}
use Rattle.std.proofs.lemmas.Bool.{true≢false, or_parts, eqb-true, eqb-false}
use Rattle.dd_names.specs.declared.object_name.ObjectKey.{ObjectKey}
use Rattle.dd_catalog.specs.Sights.{Sight}
use Rattle.dd_catalog.specs.Catalog.{Catalog, sight_of, all_of}
use Rattle.dd_catalog.specs.Valid.{IsValid}
use Rattle.dd_catalog.specs.Walks.{done, fine, needs, run}
use Rattle.rules_outcome.specs.Choices.{Choice, catalog_behind}
use Rattle.metadata_locks.specs.declared.request.Request.{Request}
use Rattle.rules_locks.specs.Holdings.{Holding, holding, AreAmong}
use Rattle.rules_locks.specs.Steps.{Step, step, Leads, AllStand, steps, rest}
use Rattle.rules_locks.specs.Claims.{Claim}
use Rattle.rules_locks.specs.Locks.{locks, choice_claims}
use Rattle.rules_locks.specs.Told.{seen_at, IsTold}
use Rattle.rules_locks.specs.Evictions.{is_hit}
use Rattle.rules_locks.specs.Held.{HasPlan, Agrees}
use Rattle.rules_locks.proofs.Told.{told_nothing, told_next, once_runs, knows_nothing}
use Rattle.rules_locks_laws.proofs.Suffice.{kept_stays, held_agrees, held_run}
use Rattle.rules_locks_laws.proofs.Known.{steps_lead, rest_is}
use Rattle.rules_locks_laws.proofs.Whole.{held_among, plan_whole}
use Rattle.rules_locks_laws.proofs.Evicts.{unhit_stays}
use Rattle.rules_locks_sessions.specs.Sessions.{Task, looks, Phase, Idle, Trying, Working, Planned, Finished, Answered, Common, IsWhole, View, view, Works, Fits, granted, gave_back, committed, is_step_hit, evicted, same, Moves, World, IsSound, moved, begun_over}
use Rattle.rules_locks_sessions.proofs.Locked.{others_granted, others_keep, none_left, whole_behind}

-- ## All sessions

pub sound_behind : (w : World) (s : ℕ) (others : Phase → Phase) (new : Common) (next : Phase) → IsSound w → Moves s others w.common new next → IsSound (moved s others new next w)
sound_behind w s others new next sound moves = record { whole = moves.whole; each = λ t. at t (t == s) refl }
  where
    at : (t : ℕ) (b : Bool) → (t == s) ≡ b → Fits (view t new) (if b then next else others (w.phases t))
    at t true is = subst (λ n. Fits (view n new) next) (sym (eqb-true t s is)) moves.mine
    at t false is = moves.theirs t (w.phases t) (eqb-false t s is) (sound.each t)

-- ## A statement begins, and gives back

pub begun : (s : ℕ) (c : Common) (task : Task) → IsWhole c → Fits (view s c) Idle → Moves s same c c (Trying task)
begun s c task whole fits = record { whole = whole; mine = fits; theirs = λ t p apart other. other }

theirs_kept : (s : ℕ) (c : Common) (t : ℕ) (p : Phase) → t ≢ s → Fits (view t c) p → Fits (view t (gave_back s c)) p
theirs_kept s c t p apart fits = subst (λ (held : Holding). Fits (record { own = held; catalog = c.catalog }) p) (sym (others_keep s t c apart)) fits

pub conflict : (s : ℕ) (c : Common) (task : Task) → IsWhole c → Moves s same c (gave_back s c) (Trying task)
conflict s c task whole = record { whole = whole_behind s c whole; mine = none_left s c; theirs = theirs_kept s c }

pub released : (s : ℕ) (c : Common) → IsWhole c → Moves s same c (gave_back s c) Idle
released s c whole = record { whole = whole_behind s c whole; mine = none_left s c; theirs = theirs_kept s c }

-- ## Locks are granted

theirs_granted : (s : ℕ) (requests : List Request) (c : Common) (t : ℕ) (p : Phase) → t ≢ s → Fits (view t c) p → Fits (view t (granted s requests c)) p
theirs_granted s requests c t p apart fits = subst (λ (held : Holding). Fits (record { own = held; catalog = c.catalog }) p) (sym (others_granted s t requests c apart)) fits

-- who holds the locks for what its client was told works
works_with : (v : View) (task : Task) (told : List Step) → AllStand (sight_of v.catalog) told → IsTold (seen_at told) told task.check
    → AreAmong (holding (locks task.intent told (rest (seen_at told) (looks task)))) v.own → AreAmong v.own (holding (locks task.intent told (rest (seen_at told) (looks task)))) → Works v task told
works_with v task told stand in_order all only = record {
  left = rest (seen_at told) (looks task);
  held = record {
    steps = told;
    leads = subst (λ l. Leads (looks task) l (rest (seen_at told) (looks task))) in_order.needed (steps_lead (seen_at told) (looks task));
    stand = stand;
    all = all;
    only = only;
  };
  stand = stand;
  in_order = in_order;
}

pub first : (s : ℕ) (requests : List Request) (c : Common) (task : Task) → IsWhole c → IsWhole (granted s requests c)
    → AreAmong (holding (locks task.intent [] (rest (seen_at []) (looks task)))) ((granted s requests c).locked s)
    → AreAmong ((granted s requests c).locked s) (holding (locks task.intent [] (rest (seen_at []) (looks task))))
    → Moves s same c (granted s requests c) (Working task [])
first s requests c task whole whole_then all only = record {
  whole = whole_then;
  mine = works_with (view s (granted s requests c)) task [] tt (told_nothing (seen_at []) task.check (λ key. refl)) all only;
  theirs = theirs_granted s requests c;
}

pub more : (s : ℕ) (requests : List Request) (c : Common) (task : Task) (told : List Step) → IsWhole (granted s requests c) → Works (view s c) task told
    → AreAmong (holding (locks task.intent told (rest (seen_at told) (looks task)))) ((granted s requests c).locked s)
    → AreAmong ((granted s requests c).locked s) (holding (locks task.intent told (rest (seen_at told) (looks task))))
    → Moves s same c (granted s requests c) (Working task told)
more s requests c task told whole works all only = record {
  whole = whole;
  mine = works_with (view s (granted s requests c)) task told works.stand works.in_order all only;
  theirs = theirs_granted s requests c;
}

-- ## A key is told

stand_more : (full : ObjectKey → Sight) (told : List Step) (s : Step) → AllStand full told → full s.key ≡ s.seen → AllStand full (told ++ s ∷ [])
stand_more full [] s all here = (here, tt)
stand_more full (t ∷ told) s all here = (all.0, stand_more full told s all.1 here)

pub told : (s : ℕ) (c : Common) (task : Task) (known : List Step) (key : ObjectKey) → IsWhole c → Works (view s c) task known → run (seen_at known) task.check ≡ needs key
    → Moves s same c c (Working task (known ++ step key (sight_of c.catalog key) ∷ []))
told s c task known key whole works needed = record {
  whole = whole;
  mine = record {
    left = works.left;
    held = works.held;
    stand = stand_more (sight_of c.catalog) known (step key (sight_of c.catalog key)) works.stand refl;
    in_order = told_next known task.check key (sight_of c.catalog key) works.in_order needed;
  };
  theirs = λ t p apart fits. fits;
}

-- ## A plan, and an answer without one

pub planned : (s : ℕ) (c : Common) (task : Task) (known : List Step) (choice : Choice) → IsWhole c → Works (view s c) task known → run (seen_at known) task.check ≡ fine choice
    → AreAmong (holding (locks task.intent known (done choice))) (c.locked s) → AreAmong (c.locked s) (holding (locks task.intent known (done choice))) → Moves s same c c (Planned task choice)
planned s c task known choice whole works is all only = record {
  whole = whole;
  mine = record {
    steps = known;
    leads = subst (λ l. Leads (looks task) l (done choice)) works.in_order.needed
        (subst (λ r. Leads (looks task) (steps (seen_at known) (looks task)) r) (rest_is (seen_at known) (looks task) choice comes) (steps_lead (seen_at known) (looks task)));
    stand = works.stand;
    all = all;
    only = only;
  };
  theirs = λ t p apart fits. fits;
}
  where
    comes : run (seen_at known) (looks task) ≡ fine choice
    comes = once_runs (seen_at known) [] task.check (knows_nothing (seen_at known)) ∙ is

pub answered : (s : ℕ) (c : Common) (task : Task) (known : List Step) → IsWhole c → Works (view s c) task known → Moves s same c c (Answered task c.catalog)
answered s c task known whole works = record {
  whole = whole;
  mine = held_among c.catalog task.intent (looks task) (c.locked s) works.left works.held;
  theirs = λ t p apart fits. fits;
}

pub given_up : (s : ℕ) (c : Common) (task : Task) (choice : Choice) → IsWhole c → HasPlan c.catalog task.intent (looks task) (c.locked s) choice → Moves s same c c (Finished task c.catalog)
given_up s c task choice whole plan = record {
  whole = whole;
  mine = (held_among c.catalog task.intent (looks task) (c.locked s) (done choice) plan, plan_whole c.catalog task.intent (looks task) (c.locked s) choice plan);
  theirs = λ t p apart fits. fits;
}

-- ## A plan is committed

unhit_stand : (claims : List Claim) (now next : ObjectKey → Sight) (known : List Step) → ((key : ObjectKey) → is_hit claims key (now key) ≡ false → next key ≡ now key)
    → list_any (is_step_hit claims) known ≡ false → AllStand now known → AllStand next known
unhit_stand claims now next [] stays spared all = tt
unhit_stand claims now next (s ∷ known) stays spared all =
    let (here, later) = or_parts (is_step_hit claims s) (list_any (is_step_hit claims) known) spared in
    (stays s.key (ap (is_hit claims s.key) all.0 ∙ here) ∙ all.0, unhit_stand claims now next known stays later all.1)

module _ (s space : ℕ) (c : Common) (task : Task) (choice : Choice) (plan : HasPlan c.catalog task.intent (looks task) (c.locked s) choice) (whole : IsWhole c) (valid : IsValid (catalog_behind space choice c.catalog)) where
  abbrev claims : List Claim
  claims = choice_claims plan.steps choice

  abbrev next : Catalog
  next = catalog_behind space choice c.catalog

  agrees : (t : ℕ) → t ≢ s → Agrees c.catalog next (c.locked t)
  agrees t apart = kept_stays c.catalog space (c.locked t) (c.locked s) task.intent (looks task) choice whole.valid valid plan (whole.together t s apart)

  spared : (known : List Step) (other : Task) (b : Bool) → list_any (is_step_hit claims) known ≡ b → AllStand (sight_of c.catalog) known → IsTold (seen_at known) known other.check
      → AllStand (sight_of next) (if b then [] else known) × IsTold (seen_at (if b then [] else known)) (if b then [] else known) other.check
  spared known other true hit stand in_order = (tt, told_nothing (seen_at []) other.check (λ key. refl))
  spared known other false unhit stand in_order =
      (unhit_stand claims (sight_of c.catalog) (sight_of next) known (unhit_stays c.catalog space (c.locked s) task.intent (looks task) choice whole.valid valid plan) unhit stand, in_order)

  theirs_then : (t : ℕ) (p : Phase) → t ≢ s → Fits (view t c) p → Fits (view t (committed space choice c)) (evicted claims p)
  theirs_then t Idle apart fits = fits
  theirs_then t (Trying other) apart fits = fits
  theirs_then t (Working other known) apart fits =
      let (stand, in_order) = spared known other (list_any (is_step_hit claims) known) refl fits.stand fits.in_order in
      record {
        left = fits.left;
        held = held_agrees c.catalog next other.intent (looks other) (c.locked t) fits.left fits.held (agrees t apart);
        stand = stand;
        in_order = in_order;
      }
  theirs_then t (Planned other chosen) apart fits = held_agrees c.catalog next other.intent (looks other) (c.locked t) (done chosen) fits (agrees t apart)
  theirs_then t (Finished other cat) apart fits = fits
  theirs_then t (Answered other cat) apart fits = fits

  pub commits : Moves s (evicted claims) c (committed space choice c) (Finished task c.catalog)
  commits = record {
    whole = record { valid = valid; together = whole.together };
    mine = (held_among c.catalog task.intent (looks task) (c.locked s) (done choice) plan, plan_whole c.catalog task.intent (looks task) (c.locked s) choice plan);
    theirs = theirs_then;
  }

-- ## Worlds

pub begins : (cat : Catalog) → IsValid cat → IsSound (begun_over cat)
begins cat valid = record {
  whole = record { valid = valid; together = λ s t apart. record { all = λ key mode mode' one other. absurd (true≢false (sym one)) } };
  each = λ s. record { none = record { all = λ key mode is. absurd (true≢false (sym is)) } };
}

-- a session's plan is right
pub plan_right : (w : World) (s : ℕ) (task : Task) (choice : Choice) → IsSound w → w.phases s ≡ Planned task choice → run (all_of w.common.catalog) task.check ≡ fine choice
plan_right w s task choice sound is =
    sym (once_runs (all_of w.common.catalog) [] task.check (knows_nothing (all_of w.common.catalog)))
    ∙ held_run w.common.catalog task.intent (looks task) (w.common.locked s) (done choice) (subst (Fits (view s w.common)) is (sound.each s))
