-- Locks suffice, whatever a check looks at and whatever it comes to.
use Rattle.std.specs.Prelude.{◌≡◌, ℕ, List, [], ◌∷◌, refl}
use Rattle.std.proofs.Common.{sym, ◌∙◌, ap, subst}
use Rattle.dd_names.specs.declared.object_name.ObjectKey.{ObjectKey}
use Rattle.dd_errors.specs.Errors.{ErrorValue}
use Rattle.dd_catalog.specs.Catalog.{Catalog, sight_of, all_of}
use Rattle.dd_catalog.specs.Valid.{IsValid}
use Rattle.dd_catalog.specs.Walks.{Walk, done, fine, run}
use Rattle.rules_outcome.specs.Choices.{Choice, Same, Changes, Lists, catalog_behind}
use Rattle.rules_locks.specs.Holdings.{Holding, GoTogether}
use Rattle.rules_locks.specs.Steps.{Step, Leads, AllStand}
use Rattle.rules_locks.specs.Locks.{Reads, look_claims, change_claims, Intent}
use Rattle.rules_locks.specs.Held.{IsHeld, HasPlan, AreCovered, Keeps, Agrees}
use Rattle.rules_locks.proofs.Covers.{flat_all}
use Rattle.rules_locks.proofs.Clash.{schemas_clash, schema_clash, objects_clash, object_clash, children_clash, name_clash}
use Rattle.rules_locks_laws.proofs.Stays.{DoNotClash, sight_stays}
use Rattle.rules_locks_laws.proofs.Claimed.{IsCovered, AllKept, steps_kept, end_covered, changes_claimed}

-- ## Locks suffice

-- claims of two sessions whose locks go together don't clash
locks_apart : (held others : Holding) → GoTogether held others → DoNotClash (IsCovered held) (IsCovered others)
locks_apart held others together = record {
  schemas = λ name keep any own. schemas_clash held others together keep any;
  schema = schema_clash held others together;
  objects = objects_clash held others together;
  object = object_clash held others together;
  children = children_clash held others together;
  name = name_clash held others together;
}

-- what the locks of one session keep stays where another, whose locks go with them, commits its plan
pub kept_stays : (cat : Catalog) (space : ℕ) (held others : Holding) (intent : Intent) (check : Walk ErrorValue Choice) (choice : Choice) → IsValid cat → IsValid (catalog_behind space choice cat)
    → HasPlan cat intent check others choice → GoTogether held others → (key : ObjectKey) → Keeps held key cat → sight_of (catalog_behind space choice cat) key ≡ sight_of cat key
kept_stays cat space held others intent check Same valid valid_behind plan together key keeps = refl
kept_stays cat space held others intent check (Lists listing) valid valid_behind plan together key keeps = refl
kept_stays cat space held others intent check (Changes changes session) valid valid_behind plan together key keeps =
    sight_stays (IsCovered held) (IsCovered others) (locks_apart held others together) space cat changes
    (changes_claimed cat (IsCovered others) plan.steps changes plan.stand (flat_all (IsCovered others) (change_claims plan.steps) changes (end_covered intent plan.steps (done (Changes changes session)) others plan.all)))
    valid valid_behind key keeps

-- steps that are kept stand in each catalog that is the same at what the locks keep
still_stand : (cat next : Catalog) (held : Holding) → ((key : ObjectKey) → Keeps held key cat → sight_of next key ≡ sight_of cat key) → (steps : List Step) → AllKept held steps → AllStand (sight_of cat) steps → AllStand (sight_of next) steps
still_stand cat next held same [] kept stand = tt
still_stand cat next held same (s ∷ steps) kept stand =
    (same s.key (subst (λ seen. AreCovered held (look_claims Reads s.key seen)) (sym stand.0) kept.0) ∙ stand.0, still_stand cat next held same steps kept.1 stand.1)

pub held_agrees : (cat next : Catalog) (intent : Intent) (check : Walk ErrorValue Choice) (held : Holding) (left : Walk ErrorValue Choice) → IsHeld cat intent check held left → Agrees cat next held → IsHeld next intent check held left
held_agrees cat next intent check held left is agrees = record {
  steps = is.steps;
  leads = is.leads;
  stand = still_stand cat next held agrees is.steps (steps_kept intent is.steps left held is.all) is.stand;
  all = is.all;
  only = is.only;
}

-- ## What a plan says

-- the check comes to what is left of it behind steps that stand
pub run_behind : (cat : Catalog) (check rest : Walk ErrorValue Choice) (steps : List Step) → Leads check steps rest → AllStand (sight_of cat) steps → run (all_of cat) check ≡ run (all_of cat) rest
run_behind cat check rest [] leads stand = ap (run (all_of cat)) leads
run_behind cat check rest (s ∷ steps) (go, is, leads) stand =
    ap (run (all_of cat)) is ∙ ap (λ seen. run (all_of cat) (go seen)) stand.0 ∙ run_behind cat (go s.seen) rest steps leads stand.1

-- what locks are held for is decided: the check comes to what is left of it behind its first steps, be it a choice or a refusal
pub held_run : (cat : Catalog) (intent : Intent) (check : Walk ErrorValue Choice) (held : Holding) (left : Walk ErrorValue Choice) → IsHeld cat intent check held left → run (all_of cat) check ≡ run (all_of cat) left
held_run cat intent check held left is = run_behind cat check left is.steps is.leads is.stand

-- so a plan is right in each catalog that is the same at what its locks keep
pub plan_agrees : (cat next : Catalog) (intent : Intent) (check : Walk ErrorValue Choice) (held : Holding) (choice : Choice) → HasPlan cat intent check held choice → Agrees cat next held → run (all_of next) check ≡ fine choice
plan_agrees cat next intent check held choice plan agrees = held_run next intent check held (done choice) (held_agrees cat next intent check held (done choice) plan agrees)
