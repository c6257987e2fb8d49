-- Looks that are taken ahead of a check.
use Rattle.std.specs.Prelude.{◌≡◌, Bool, true, false, List, [], ◌∷◌, ◌++◌, map, Option, Some, None, Result, if◌then◌else◌, refl}
use Rattle.std.specs.List.{flat_map}
use Rattle.std.specs.Option.{option_map}
use Rattle.std.proofs.Common.{sym, ◌∙◌, ap, subst, append_assoc}
use Rattle.std.proofs.lemmas.List.{append-nil}
use Rattle.dd_names.specs.declared.object_name.ObjectKey.{ObjectKey}
use Rattle.dd_errors.specs.Errors.{ErrorValue}
use Rattle.sql_ast.specs.declared.session.SessionState.{SessionState}
use Rattle.sql_ast.specs.declared.statement.Statement.{Statement}
use Rattle.dd_catalog.specs.Catalog.{Catalog, all_of}
use Rattle.dd_catalog.specs.Sights.{Sight, sight}
use Rattle.dd_catalog.specs.Walks.{Walk, done, refuse, ask, needs, told, run}
use Rattle.dd_catalog.specs.WalkLaws.{IsSettled, Look}
use Rattle.dd_catalog.specs.declared.stop.Stop.{Stop}
use Rattle.rules_outcome.specs.Choices.{Choice}
use Rattle.rules_outcome.specs.Decided.{Decides}
use Rattle.rules_outcome.specs.declared.decided.Decided.{Decided}
use Rattle.rules_locks.specs.Claims.{Claim}
use Rattle.rules_locks.specs.Held.{AreCovered}
use Rattle.rules_locks.specs.Holdings.{AreAmong, Holding, holding}
use Rattle.rules_locks.specs.Locks.{Grip, Intent, locks, look_claims, step_claims}
use Rattle.rules_locks.specs.Steps.{Step, step, steps, steps_after, rest}
use Rattle.rules_locks.specs.Told.{IsTold, is_same_place, once, once_at, seen_at}
use Rattle.rules_locks.proofs.Covers.{all_covered_more, back_all, claims_covered, front_all}
use Rattle.rules_locks.proofs.Places.{place_itself, same_place}
use Rattle.rules_locks.proofs.Told.{no_step, seen_behind}
use Rattle.rules_intents.specs.Intents.{intent}
use Rattle.rules_footprint.specs.Plans.{decided_claims}
use Rattle.rules_footprint.specs.Steps.{step_of}
use Rattle.rules_footprint.specs.declared.footprints.Told.{Told}
use Rattle.rules_footprint_laws.specs.Ahead.{AreNew, ahead, keys_of, looks_at}
use Rattle.rules_footprint_laws.specs.Clients.{HasAnswer, requests}
use Rattle.rules_footprint_laws.proofs.Client.{client_locks, told_seen}
use Rattle.rules_footprint_laws.proofs.Once.{Covers, both_all, look_covered}

-- ## What the check comes to behind them

pub ahead_found : {E A B : Type 0} (look : Look) (first : Walk E B) (check : Walk E A) → IsSettled (run look first) → run look (ahead first check) ≡ run look check
ahead_found look (done x) check settled = refl
ahead_found look (refuse e) check settled = refl
ahead_found {E = E} {A = A} {B = B} look (ask key go) check settled = on (look key) settled (λ seen. ahead_found look (go seen) check)
  where
    on : (o : Option Sight) → IsSettled (told {E = E} {A = B} o key (λ seen. run look (go seen))) → ((seen : Sight) → IsSettled (run look (go seen)) → run look (ahead (go seen) check) ≡ run look check)
        → told {E = E} {A = A} o key (λ seen. run look (ahead (go seen) check)) ≡ run look check
    on None settled later = absurd settled
    on (Some seen) settled later = later seen settled

pub ahead_needed : {E A B : Type 0} (look : Look) (first : Walk E B) (check : Walk E A) (key : ObjectKey) → run look first ≡ needs key → run look (ahead first check) ≡ needs key
ahead_needed look (done x) check key is = cc
ahead_needed look (refuse e) check key is = cc
ahead_needed {E = E} {A = A} {B = B} look (ask k go) check key is = on (look k) is (λ seen. ahead_needed look (go seen) check key)
  where
    on : (o : Option Sight) → told {E = E} {A = B} o k (λ seen. run look (go seen)) ≡ needs key → ((seen : Sight) → run look (go seen) ≡ needs key → run look (ahead (go seen) check) ≡ needs key)
        → told {E = E} {A = A} o k (λ seen. run look (ahead (go seen) check)) ≡ needs key
    on None is later = let same : k ≡ key = cc in ap (λ q. needs q) same
    on (Some seen) is later = later seen is

all_settled : {E A : Type 0} (cat : Catalog) (check : Walk E A) → IsSettled (run (all_of cat) check)
all_settled cat (done x) = tt
all_settled cat (refuse e) = tt
all_settled cat (ask key go) = all_settled cat (go _)

pub ahead_whole : {E A B : Type 0} (cat : Catalog) (first : Walk E B) (check : Walk E A) → run (all_of cat) (ahead first check) ≡ run (all_of cat) check
ahead_whole cat first check = ahead_found (all_of cat) first check (all_settled cat first)

-- ## A client that was told keys ahead

-- no key of those before stands behind them
abbrev AreApart : List Step → Type 0
AreApart [] = Unit {0}
AreApart (s ∷ taken) = (seen_at taken s.key ≡ None) × AreApart taken

new_apart : (told : List Told) → AreNew told → AreApart (map step_of told)
new_apart [] are = tt
new_apart (t ∷ told) are = (sym (told_seen told t.key.now) ∙ ap (option_map sight) are.0, new_apart told are.1)

here_seen : (s : Step) (more : List Step) → seen_at (s ∷ more) s.key ≡ Some s.seen
here_seen s more = ap (λ (b : Bool). if b then Some s.seen else seen_at more s.key) (place_itself s.key)

front_apart : (before : List Step) (s : Step) (more : List Step) → AreApart (before ++ s ∷ more) → seen_at before s.key ≡ None
front_apart [] s more are = refl
front_apart (b ∷ before) s more are = on (is_same_place b.key s.key) refl (front_apart before s more are.1)
  where
    on : (same : Bool) → is_same_place b.key s.key ≡ same → seen_at before s.key ≡ None → (if same then Some b.seen else seen_at before s.key) ≡ None
    on true same later =
        let there : seen_at (before ++ s ∷ more) s.key ≡ None = ap (seen_at (before ++ s ∷ more)) (sym (same_place b.key s.key same)) ∙ are.0 in
        let is : seen_at (before ++ s ∷ more) s.key ≡ Some s.seen = seen_behind before (s ∷ more) s.key later ∙ here_seen s more in
        absurd cc
    on false apart later = later

abbrev key_of_step : Step → ObjectKey
key_of_step s = s.key

steps_told : {E A : Type 0} (look : Look) (before tail : List Step) (check : Walk E A) → ((key : ObjectKey) → look key ≡ seen_at (before ++ tail) key) → AreApart (before ++ tail)
    → steps look (once before (ahead (looks_at {E = E} (map key_of_step tail)) check)) ≡ tail
steps_told look before [] check known apart = no_step look before check (λ key. known key ∙ ap (λ l. seen_at l key) (append-nil before))
steps_told {E = E} {A = A} look before (s ∷ tail) check known apart =
    let unseen : seen_at before s.key ≡ None = front_apart before s tail apart in
    let here : look s.key ≡ Some s.seen = known s.key ∙ seen_behind before (s ∷ tail) s.key unseen ∙ here_seen s tail in
    let same : before ++ s ∷ tail ≡ (before ++ s ∷ []) ++ tail = sym (append_assoc before (s ∷ []) tail) in
    let more : Walk E A = ahead (looks_at {E = E} (map key_of_step tail)) check in
    ap (λ o. steps look (once_at o s.key (λ seen. once (before ++ step s.key seen ∷ []) more) (λ seen. once before more))) unseen
    ∙ ap (λ o. steps_after o s.key (λ seen. steps look (once (before ++ step s.key seen ∷ []) more))) here
    ∙ ap (λ l. s ∷ l) (steps_told look (before ++ s ∷ []) tail check (λ key. known key ∙ ap (λ l. seen_at l key) same) (subst AreApart same apart))

told_keys : (told : List Told) → map key_of_step (map step_of told) ≡ keys_of told
told_keys [] = refl
told_keys (t ∷ told) = ap (λ l. t.key.now ∷ l) (told_keys told)

pub told_ahead : {E A : Type 0} (look : Look) (told : List Told) (check : Walk E A) → ((key : ObjectKey) → look key ≡ seen_at (map step_of told) key) → AreNew told → IsTold look (map step_of told) (ahead (looks_at {E = E} (keys_of told)) check)
told_ahead {E = E} look told check known are = record {
  known = known;
  needed = ap (λ keys. steps look (once [] (ahead (looks_at {E = E} keys) check))) (sym (told_keys told)) ∙ steps_told look [] (map step_of told) check known (new_apart told are);
}

abbrev AreKnown : Look → List Step → Type 0
AreKnown look [] = Unit {0}
AreKnown look (s ∷ taken) = (look s.key ≡ Some s.seen) × AreKnown look taken

each_known : (look : Look) (before tail : List Step) → ((key : ObjectKey) → look key ≡ seen_at (before ++ tail) key) → AreApart (before ++ tail) → AreKnown look tail
each_known look before [] known apart = tt
each_known look before (s ∷ tail) known apart =
    let same : before ++ s ∷ tail ≡ (before ++ s ∷ []) ++ tail = sym (append_assoc before (s ∷ []) tail) in (
      known s.key ∙ seen_behind before (s ∷ tail) s.key (front_apart before s tail apart) ∙ here_seen s tail,
      each_known look (before ++ s ∷ []) tail (λ key. known key ∙ ap (λ l. seen_at l key) same) (subst AreApart same apart),
    )

looks_settled : (look : Look) (taken : List Step) → AreKnown look taken → IsSettled (run look (looks_at {E = ErrorValue} (map key_of_step taken)))
looks_settled look [] are = tt
looks_settled look (s ∷ taken) are =
    subst (λ o. IsSettled (told {E = ErrorValue} {A = Unit {0}} o s.key (λ seen. run look (looks_at {E = ErrorValue} (map key_of_step taken))))) (sym are.0) (looks_settled look taken are.1)

keys_settled : (look : Look) (told : List Told) → ((key : ObjectKey) → look key ≡ seen_at (map step_of told) key) → AreNew told → IsSettled (run look (looks_at {E = ErrorValue} (keys_of told)))
keys_settled look told known are =
    subst (λ keys. IsSettled (run look (looks_at {E = ErrorValue} keys))) (told_keys told) (looks_settled look (map step_of told) (each_known look [] (map step_of told) known (new_apart told are)))

pub locks_ahead : (session : SessionState) (statement : Statement) (look : Look) (told : List Told) (check : Walk ErrorValue Choice) (decided : Result Decided Stop) → ((key : ObjectKey) → look key ≡ seen_at (map step_of told) key) → AreNew told
    → Decides decided (run look check) → HasAnswer decided → requests session statement told decided ≡ locks (intent session statement) (steps look (ahead (looks_at {E = ErrorValue} (keys_of told)) check)) (rest look (ahead (looks_at {E = ErrorValue} (keys_of told)) check))
locks_ahead session statement look told check decided known are is answers =
    client_locks session statement look told (ahead (looks_at {E = ErrorValue} (keys_of told)) check) decided (record {
      in_order = told_ahead look told check known are;
      decides = subst (Decides decided) (sym (ahead_found look (looks_at {E = ErrorValue} (keys_of told)) check (keys_settled look told known are))) is;
      answers = answers;
    })

-- ## What is covered

steps_covered : {E A : Type 0} (grip : Grip) (held : Holding) (look : Look) (taken : List Step) (check : Walk E A) → ((key : ObjectKey) → look key ≡ seen_at taken key) → AreCovered held (flat_map (step_claims grip) taken) → AreCovered held (flat_map (step_claims grip) (steps look check))
steps_covered grip held look taken (done x) known all = tt
steps_covered grip held look taken (refuse e) known all = tt
steps_covered {E = E} {A = A} grip held look taken (ask key go) known all = on (look key) refl (λ seen. steps_covered grip held look taken (go seen) known all)
  where
    on : (o : Option Sight) → look key ≡ o → ((seen : Sight) → AreCovered held (flat_map (step_claims grip) (steps look (go seen)))) → AreCovered held (flat_map (step_claims grip) (steps_after o key (λ seen. steps look (go seen))))
    on None is later = tt
    on (Some seen) is later =
        both_all (Covers held) (look_claims grip key seen) (flat_map (step_claims grip) (steps look (go seen))) (look_covered grip taken held key seen (sym (known key) ∙ is) all) (later seen)

pub told_covered : (session : SessionState) (statement : Statement) (look : Look) (told : List Told) (check : Walk ErrorValue Choice) (decided : Result Decided Stop) (held : Holding) → ((key : ObjectKey) → look key ≡ seen_at (map step_of told) key)
    → AreAmong (holding (requests session statement told decided)) held → AreCovered held ((intent session statement).claims ++ flat_map (step_claims (intent session statement).grip) (steps look check))
told_covered session statement look told check decided held known among =
    let meant : Intent = intent session statement in
    let looks : List Claim = flat_map (step_claims meant.grip) (map step_of told) in
    let ends : List Claim = decided_claims (map step_of told) decided in
    let all : AreCovered held (meant.claims ++ (looks ++ ends)) =
    all_covered_more (holding (requests session statement told decided)) held among (meant.claims ++ (looks ++ ends)) (claims_covered [] (meant.claims ++ (looks ++ ends))) in
    both_all (Covers held) meant.claims (flat_map (step_claims meant.grip) (steps look check)) (front_all (Covers held) meant.claims (looks ++ ends) all)
    (steps_covered meant.grip held look (map step_of told) check known (front_all (Covers held) looks ends (back_all (Covers held) meant.claims (looks ++ ends) all)))
