-- Steps over what is known of a catalog.
use Rattle.std.specs.Prelude.{◌≡◌, List, [], ◌++◌, Option, Some, None, refl}
use Rattle.std.specs.List.{flat_map}
use Rattle.std.proofs.Common.{sym, ◌∙◌, ap, subst}
use Rattle.dd_names.specs.declared.object_name.ObjectKey.{ObjectKey}
use Rattle.dd_errors.specs.Errors.{ErrorValue}
use Rattle.dd_catalog.specs.Sights.{Sight}
use Rattle.dd_catalog.specs.Catalog.{Catalog, sight_of}
use Rattle.dd_catalog.specs.Walks.{Walk, done, refuse, ask, fine, told, run}
use Rattle.dd_catalog.specs.WalkLaws.{Look, IsOf}
use Rattle.rules_outcome.specs.Choices.{Choice}
use Rattle.rules_locks.specs.Holdings.{Holding, holding, AreAmong}
use Rattle.rules_locks.specs.Steps.{Step, Leads, AllStand, steps, steps_after, rest, rest_after}
use Rattle.rules_locks.specs.Claims.{with_claims}
use Rattle.rules_locks.specs.Locks.{Intent, step_claims, end_claims, locks}
use Rattle.rules_locks.specs.Held.{IsHeld, HasPlan, found_claims}

-- the steps over what is known of a catalog are steps over the catalog
pub steps_lead : (look : Look) (check : Walk ErrorValue Choice) → Leads check (steps look check) (rest look check)
steps_lead look (done x) = refl
steps_lead look (refuse e) = refl
steps_lead look (ask key go) = on (look key) (λ seen. steps_lead look (go seen))
  where
    on : (known : Option Sight) → ((seen : Sight) → Leads (go seen) (steps look (go seen)) (rest look (go seen)))
        → Leads (ask key go) (steps_after known key (λ seen. steps look (go seen))) (rest_after known (ask key go) (λ seen. rest look (go seen)))
    on None later = refl
    on (Some seen) later = (go, refl, later seen)

pub steps_stand : (full : ObjectKey → Sight) (look : Look) (check : Walk ErrorValue Choice) → IsOf full look → AllStand full (steps look check)
steps_stand full look (done x) of = tt
steps_stand full look (refuse e) of = tt
steps_stand full look (ask key go) of = on (look key) refl (λ seen. steps_stand full look (go seen) of)
  where
    on : (known : Option Sight) → look key ≡ known → ((seen : Sight) → AllStand full (steps look (go seen))) → AllStand full (steps_after known key (λ seen. steps look (go seen)))
    on None is later = tt
    on (Some seen) is later = (of.stands key seen is, later seen)

-- what is left of a check that came to a choice
pub rest_is : (look : Look) (check : Walk ErrorValue Choice) (choice : Choice) → run look check ≡ fine choice → rest look check ≡ done choice
rest_is look (done x) choice is =
    let finish : Choice → Walk ErrorValue Choice = λ c. done c in
    let same : x ≡ choice = cc in
    ap finish same
rest_is look (refuse e) choice is = cc
rest_is look (ask key go) choice is = on (look key) is (λ seen. rest_is look (go seen) choice)
  where
    on : (known : Option Sight) → told {E = ErrorValue} {A = Choice} known key (λ seen. run look (go seen)) ≡ fine choice → ((seen : Sight) → run look (go seen) ≡ fine choice → rest look (go seen) ≡ done choice)
        → rest_after known (ask key go) (λ seen. rest look (go seen)) ≡ done choice
    on None is later = cc
    on (Some seen) is later = later seen is

-- the end claims what was found
pub ends_found : (look : Look) (check : Walk ErrorValue Choice) (taken : List Step) → end_claims taken (rest look check) ≡ found_claims taken (run look check)
ends_found look (done x) taken = refl
ends_found look (refuse e) taken = refl
ends_found look (ask key go) taken = on (look key) (λ seen. ends_found look (go seen) taken)
  where
    on : (known : Option Sight) → ((seen : Sight) → end_claims taken (rest look (go seen)) ≡ found_claims taken (run look (go seen)))
        → end_claims taken (rest_after known (ask key go) (λ seen. rest look (go seen))) ≡ found_claims taken (told {E = ErrorValue} {A = Choice} known key (λ seen. run look (go seen)))
    on None later = refl
    on (Some seen) later = later seen

-- so the locks follow from the steps and what was found
pub locks_by_found : (intent : Intent) (look : Look) (check left : Walk ErrorValue Choice) (taken : List Step) → end_claims taken left ≡ found_claims taken (run look check) → locks intent taken left ≡ locks intent taken (rest look check)
unfolding locks
locks_by_found intent look check left taken is = ap (λ end. with_claims [] (intent.claims ++ (flat_map (step_claims intent.grip) taken ++ end))) (is ∙ sym (ends_found look check taken))

-- who holds all locks for what it knows, holds those for the first steps
pub known_held : (cat : Catalog) (intent : Intent) (look : Look) (check : Walk ErrorValue Choice) (held : Holding) → IsOf (sight_of cat) look
    → AreAmong (holding (locks intent (steps look check) (rest look check))) held → AreAmong held (holding (locks intent (steps look check) (rest look check))) → IsHeld cat intent check held (rest look check)
known_held cat intent look check held of all only = record {
  steps = steps look check;
  leads = steps_lead look check;
  stand = steps_stand (sight_of cat) look check of;
  all = all;
  only = only;
}

pub known_plan : (cat : Catalog) (intent : Intent) (look : Look) (check : Walk ErrorValue Choice) (held : Holding) (choice : Choice) → IsOf (sight_of cat) look
    → run look check ≡ fine choice → AreAmong (holding (locks intent (steps look check) (rest look check))) held → AreAmong held (holding (locks intent (steps look check) (rest look check))) → HasPlan cat intent check held choice
known_plan cat intent look check held choice of is all only = subst (IsHeld cat intent check held) (rest_is look check choice is) (known_held cat intent look check held of all only)
