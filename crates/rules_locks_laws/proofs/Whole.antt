-- Held locks are among those of the whole check.
use Rattle.std.specs.Prelude.{◌≡◌, List, [], ◌∷◌, ◌++◌, refl}
use Rattle.std.specs.List.{flat_map}
use Rattle.std.proofs.Common.{sym, ◌∙◌, ap, subst, append_assoc}
use Rattle.std.proofs.lemmas.List.{append-nil}
use Rattle.dd_errors.specs.Errors.{ErrorValue}
use Rattle.dd_catalog.specs.Catalog.{Catalog, sight_of, all_of}
use Rattle.dd_catalog.specs.Walks.{Walk, done, refuse, ask}
use Rattle.rules_outcome.specs.Choices.{Choice}
use Rattle.rules_locks.specs.Holdings.{Holding, holding, AreAmong}
use Rattle.rules_locks.specs.Steps.{Step, step, Leads, AllStand, steps, rest}
use Rattle.rules_locks.specs.Claims.{Claim, with_claims}
use Rattle.rules_locks.specs.Locks.{front_claims, seen_claims, Intent, step_claims, end_claims, all_claims, locks}
use Rattle.rules_locks.specs.Held.{IsHeld, HasPlan, all_locks}
use Rattle.rules_locks.proofs.Requests.{among_itself, among_through}
use Rattle.rules_locks.proofs.Covers.{claims_among, claims_append}

-- the steps over the whole catalog go on from steps that stand
steps_whole : (cat : Catalog) (check left : Walk ErrorValue Choice) (first : List Step) → Leads check first left → AllStand (sight_of cat) first
    → (steps (all_of cat) check ≡ first ++ steps (all_of cat) left) × (rest (all_of cat) check ≡ rest (all_of cat) left)
steps_whole cat check left [] leads stand = (ap (steps (all_of cat)) leads, ap (rest (all_of cat)) leads)
steps_whole cat check left (s ∷ first) (go, is, leads) stand =
    let (more, end) = steps_whole cat (go s.seen) left first leads stand.1 in (
      ap (steps (all_of cat)) is ∙ ap (λ seen. step s.key seen ∷ steps (all_of cat) (go seen)) stand.0 ∙ ap (λ l. step s.key s.seen ∷ l) more,
      ap (rest (all_of cat)) is ∙ ap (λ seen. rest (all_of cat) (go seen)) stand.0 ∙ end,
    )

flat_append : {A B : Type 0} (f : A → List B) (xs ys : List A) → flat_map f (xs ++ ys) ≡ flat_map f xs ++ flat_map f ys
flat_append f [] ys = refl
flat_append f (x ∷ xs) ys = ap (λ l. f x ++ l) (flat_append f xs ys) ∙ sym (append_assoc (f x) (flat_map f xs) (flat_map f ys))

-- more claims have more locks
longer_among : (claims more longer : List Claim) → longer ≡ claims ++ more → AreAmong (holding (with_claims [] claims)) (holding (with_claims [] longer))
longer_among claims more longer is =
    subst (λ l. AreAmong (holding (with_claims [] claims)) (holding (with_claims [] l))) (sym is)
    (subst (λ rs. AreAmong (holding (with_claims [] claims)) (holding rs)) (sym (claims_append [] claims more)) (claims_among (with_claims [] claims) more))

-- the claims of more steps begin with those of the first ones
pub first_among : (intent : Intent) (first more : List Step) (left end : Walk ErrorValue Choice) (behind : List Claim) → flat_map (step_claims intent.grip) more ++ end_claims (first ++ more) end ≡ end_claims first left ++ behind
    → AreAmong (holding (locks intent first left)) (holding (locks intent (first ++ more) end))
unfolding locks
first_among intent first more left end behind is =
    longer_among (all_claims intent first left) behind (all_claims intent (first ++ more) end)
    (ap (λ l. intent.claims ++ (l ++ end_claims (first ++ more) end)) (flat_append (step_claims intent.grip) first more)
    ∙ ap (λ l. intent.claims ++ l) (append_assoc (flat_map (step_claims intent.grip) first) (flat_map (step_claims intent.grip) more) (end_claims (first ++ more) end))
    ∙ ap (λ l. intent.claims ++ (flat_map (step_claims intent.grip) first ++ l)) is
    ∙ ap (λ l. intent.claims ++ l) (sym (append_assoc (flat_map (step_claims intent.grip) first) (end_claims first left) behind))
    ∙ sym (append_assoc intent.claims (flat_map (step_claims intent.grip) first ++ end_claims first left) behind))

first_of_whole : (cat : Catalog) (intent : Intent) (first : List Step) (left : Walk ErrorValue Choice) → AreAmong (holding (locks intent first left)) (holding (locks intent (first ++ steps (all_of cat) left) (rest (all_of cat) left)))
first_of_whole cat intent first (done choice) = subst (λ l. AreAmong (holding (locks intent first (done choice))) (holding (locks intent l (done choice)))) (sym (append-nil first)) (among_itself (holding (locks intent first (done choice))))
first_of_whole cat intent first (refuse e) = subst (λ l. AreAmong (holding (locks intent first (refuse e))) (holding (locks intent l (refuse e)))) (sym (append-nil first)) (among_itself (holding (locks intent first (refuse e))))
first_of_whole cat intent first (ask key go) =
    let more = steps (all_of cat) (ask key go) in
    let end = rest (all_of cat) (ask key go) in
    let later = flat_map (step_claims intent.grip) (steps (all_of cat) (go (sight_of cat key))) in
    first_among intent first more (ask key go) end ((seen_claims intent.grip key (sight_of cat key) ++ later) ++ end_claims (first ++ more) end)
    (ap (λ l. l ++ end_claims (first ++ more) end) (append_assoc (front_claims key) (seen_claims intent.grip key (sight_of cat key)) later)
    ∙ append_assoc (front_claims key) (seen_claims intent.grip key (sight_of cat key) ++ later) (end_claims (first ++ more) end))

-- held locks are among those of the check over the whole catalog
pub held_among : (cat : Catalog) (intent : Intent) (check : Walk ErrorValue Choice) (held : Holding) (left : Walk ErrorValue Choice) → IsHeld cat intent check held left → AreAmong held (holding (all_locks cat intent check))
held_among cat intent check held left is =
    let (all_steps, end) = steps_whole cat check left is.steps is.leads is.stand in
    among_through held (holding (locks intent is.steps left)) (holding (all_locks cat intent check)) is.only
    (subst (λ l. AreAmong (holding (locks intent is.steps left)) (holding (locks intent l (rest (all_of cat) check)))) (sym all_steps)
    (subst (λ r. AreAmong (holding (locks intent is.steps left)) (holding (locks intent (is.steps ++ steps (all_of cat) left) r))) (sym end) (first_of_whole cat intent is.steps left)))

-- and who has a plan holds all of these
pub plan_whole : (cat : Catalog) (intent : Intent) (check : Walk ErrorValue Choice) (held : Holding) (choice : Choice) → HasPlan cat intent check held choice → AreAmong (holding (all_locks cat intent check)) held
plan_whole cat intent check held choice plan =
    let (all_steps, end) = steps_whole cat check (done choice) plan.steps plan.leads plan.stand in
    subst (λ l. AreAmong (holding (locks intent l (rest (all_of cat) check))) held) (sym (all_steps ∙ append-nil plan.steps))
    (subst (λ r. AreAmong (holding (locks intent plan.steps r)) held) (sym end) plan.all)
