-- Sessions side by side over one catalog: what each of them has locked and knows, and how far its statement is.
use Rattle.std.specs.Prelude.{◌≢◌, ℕ, Bool, false, ◌==◌, ◌&&◌, ◌||◌, List, [], if◌then◌else◌}
use Rattle.std.specs.List.{list_any}
use Rattle.dd_errors.specs.Errors.{ErrorValue}
use Rattle.dd_catalog.specs.Catalog.{Catalog, sight_of}
use Rattle.dd_catalog.specs.Valid.{IsValid}
use Rattle.dd_catalog.specs.Walks.{Walk}
use Rattle.rules_outcome.specs.Choices.{Choice, catalog_behind}
use Rattle.metadata_locks.specs.declared.request.Request.{Request}
use Rattle.metadata_locks.specs.Held.{ask_for}
use Rattle.rules_locks.specs.Holdings.{Holding, holding, AreAmong, GoTogether}
use Rattle.rules_locks.specs.Steps.{Step, AllStand}
use Rattle.rules_locks.specs.Claims.{Claim}
use Rattle.rules_locks.specs.Locks.{Intent}
use Rattle.rules_locks.specs.Told.{once, seen_at, IsTold}
use Rattle.rules_locks.specs.Evictions.{is_hit}
use Rattle.rules_locks.specs.Held.{IsHeld, HasPlan, all_locks}

-- what a statement is for its locks
pub record Task : Type 0 where
  pub intent : Intent
  pub check : Walk ErrorValue Choice

-- its check without a second look at any key
abbrev pub looks : Task → Walk ErrorValue Choice
looks task = once [] task.check

-- all locks of the statement over the catalog
abbrev pub needed : Catalog → Task → Holding
needed cat task = holding (all_locks cat task.intent (looks task))

-- How far a session is: it has no statement; it holds nothing for its statement yet; its client was told this; it has a plan; it
-- has an entry behind a plan, made over this catalog; it has an entry without a plan, made over this catalog.
pub data Phase : Type 0 where
  Idle : Phase
  Trying : Task → Phase
  Working : Task → List Step → Phase
  Planned : Task → Choice → Phase
  Finished : Task → Catalog → Phase
  Answered : Task → Catalog → Phase

-- what the sessions share: the catalog, and what each of them has locked
pub record Common : Type 0 where
  pub catalog : Catalog
  pub locked : ℕ → Holding

pub record IsWhole (c : Common) : Type 0 where
  pub valid : IsValid c.catalog
  pub together : (s t : ℕ) → s ≢ t → GoTogether (c.locked s) (c.locked t)

-- what a session has of that
pub record View : Type 0 where
  pub own : Holding
  pub catalog : Catalog

abbrev pub view : ℕ → Common → View
view s c = record { own = c.locked s; catalog = c.catalog }

pub record HasNone (held : Holding) : Type 0 where
  pub none : AreAmong held (holding [])

-- its locks are those of the first steps of its check, and what its client knows stands there
pub record Works (v : View) (task : Task) (told : List Step) : Type 0 where
  pub left : Walk ErrorValue Choice
  pub held : IsHeld v.catalog task.intent (looks task) v.own left
  pub stand : AllStand (sight_of v.catalog) told
  pub in_order : IsTold (seen_at told) told task.check

-- what holds of a session in each phase
abbrev pub Fits : View → Phase → Type 0
Fits v Idle = HasNone v.own
Fits v (Trying task) = HasNone v.own
Fits v (Working task told) = Works v task told
Fits v (Planned task choice) = HasPlan v.catalog task.intent (looks task) v.own choice
Fits v (Finished task cat) = AreAmong v.own (needed cat task) × AreAmong (needed cat task) v.own
Fits v (Answered task cat) = AreAmong v.own (needed cat task)

-- ## What events make of what is shared

-- the session has locked these besides
abbrev pub granted : ℕ → List Request → Common → Common
granted s requests c = record c { locked = λ t key mode. (t == s && ask_for requests key mode) || c.locked t key mode }

-- it has given all back
abbrev pub gave_back : ℕ → Common → Common
gave_back s c = record c { locked = λ t key mode. if t == s then false else c.locked t key mode }

-- the choice is made true
abbrev pub committed : ℕ → Choice → Common → Common
committed space choice c = record c { catalog = catalog_behind space choice c.catalog }

-- a client that knows something of what the claims hit knows nothing then
abbrev pub is_step_hit : List Claim → Step → Bool
is_step_hit claims s = is_hit claims s.key s.seen

abbrev pub kept : List Claim → List Step → List Step
kept claims told = if list_any (is_step_hit claims) told then [] else told

abbrev pub evicted : List Claim → Phase → Phase
evicted claims Idle = Idle
evicted claims (Trying task) = Trying task
evicted claims (Working task told) = Working task (kept claims told)
evicted claims (Planned task choice) = Planned task choice
evicted claims (Finished task cat) = Finished task cat
evicted claims (Answered task cat) = Answered task cat

abbrev pub same : Phase → Phase
same p = p

-- ## An event of one session

-- the session is in its next phase, and every other in what the event makes of its own
pub record Moves (s : ℕ) (others : Phase → Phase) (old new : Common) (next : Phase) : Type 0 where
  pub whole : IsWhole new
  pub mine : Fits (view s new) next
  pub theirs : (t : ℕ) (p : Phase) → t ≢ s → Fits (view t old) p → Fits (view t new) (others p)

-- ## All sessions

pub record World : Type 0 where
  pub common : Common
  pub phases : ℕ → Phase

pub record IsSound (w : World) : Type 0 where
  pub whole : IsWhole w.common
  pub each : (s : ℕ) → Fits (view s w.common) (w.phases s)

abbrev pub moved : ℕ → (Phase → Phase) → Common → Phase → World → World
moved s others new next w = record { common = new; phases = λ t. if t == s then next else others (w.phases t) }

-- no session has a statement
abbrev pub begun_over : Catalog → World
begun_over cat = record { common = record { catalog = cat; locked = λ s key mode. false }; phases = λ s. Idle }
