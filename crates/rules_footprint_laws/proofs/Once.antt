-- A second look at a key asks for nothing more: the locks of a check without it are those of the check.
use Rattle.std.specs.Prelude.{◌≡◌, Bool, true, false, List, [], ◌∷◌, ◌++◌, Option, Some, None, if◌then◌else◌, refl}
use Rattle.std.specs.List.{AllByRecursion, flat_map}
use Rattle.std.proofs.Common.{sym, ◌∙◌, ap, subst, append_assoc}
use Rattle.std.proofs.lemmas.List.Concat.{flat_map-append}
use Rattle.dd_names.specs.declared.object_name.ObjName.{ObjName}
use Rattle.dd_names.specs.declared.object_name.ObjectKey.{ObjectKey}
use Rattle.dd_names.specs.declared.object_name.ObjectKey.TheVariants as keys
use Rattle.dd_definitions.specs.declared.foreign_keys.ForeignKeyDef.{ForeignKeyDef}
use Rattle.dd_errors.specs.Errors.{ErrorValue}
use Rattle.dd_catalog.specs.Sights.{Sight}
use Rattle.dd_catalog.specs.Walks.{Walk, done, refuse, ask, Found, fine, refused, needs, run}
use Rattle.dd_catalog.specs.WalkLaws.{Look}
use Rattle.metadata_locks.specs.declared.request.Request.{Request}
use Rattle.rules_outcome.specs.Choices.{After, Change, Choice, Same, Changes, Lists}
use Rattle.rules_locks.specs.Claims.{Claim, ChangeCatalog, ChangeObject, is_covered, with_claims}
use Rattle.rules_locks.specs.Held.{AreCovered, found_claims}
use Rattle.rules_locks.specs.Holdings.{Holding, holding}
use Rattle.rules_locks.specs.Locks.{Grip, Intent, change_claims, choice_claims, claims_at, is_at, key_claims, keys_before, keys_left, keys_seen, locks, look_claims, step_claims}
use Rattle.rules_locks.specs.Steps.{Step, step, steps, steps_after, rest}
use Rattle.rules_locks.specs.Told.{is_same_place, seen_at, once_at, once, IsTold}
use Rattle.rules_locks.proofs.Covers.{all_covered_more, back_all, claims_among, claims_append, claims_covered, covered_stays, front_all}
use Rattle.rules_locks.proofs.Places.{same_place}
use Rattle.rules_locks.proofs.Told.{Knows, knows_more, knows_nothing, seen_behind, seen_still}
use Rattle.rules_locks_laws.proofs.Known.{ends_found}

-- ## What is covered

-- claims that are covered ask for nothing
all_stay : (requests : List Request) (claims : List Claim) → AreCovered (holding requests) claims → with_claims requests claims ≡ requests
all_stay requests [] all = refl
all_stay requests (claim ∷ claims) all = ap (λ r. with_claims r claims) (covered_stays requests claim all.0) ∙ all_stay requests claims all.1

abbrev pub Covers : Holding → Claim → Type 0
Covers held claim = is_covered held claim ≡ true

pub both_all : {A : Type 0} (P : A → Type 0) (xs ys : List A) → AllByRecursion P xs → AllByRecursion P ys → AllByRecursion P (xs ++ ys)
both_all P [] ys one other = other
both_all P (x ∷ xs) ys one other = (one.0, both_all P xs ys one.1 other)

-- a second look claims what the first does
pub look_covered : (grip : Grip) (before : List Step) (held : Holding) (key : ObjectKey) (seen : Sight) → seen_at before key ≡ Some seen → AreCovered held (flat_map (step_claims grip) before) → AreCovered held (look_claims grip key seen)
look_covered grip [] held key seen is all = cc
look_covered grip (b ∷ before) held key seen is all =
    on (is_same_place b.key key) refl is (λ later. look_covered grip before held key seen later (back_all (Covers held) (step_claims grip b) (flat_map (step_claims grip) before) all))
  where
    on : (same : Bool) → is_same_place b.key key ≡ same → (if same then Some b.seen else seen_at before key) ≡ Some seen → (seen_at before key ≡ Some seen → AreCovered held (look_claims grip key seen)) → AreCovered held (look_claims grip key seen)
    on true same here later =
        let key_is : b.key ≡ key = same_place b.key key same in
        let seen_is : b.seen ≡ seen = cc in
        subst (AreCovered held) (λ i. look_claims grip (key_is i) (seen_is i)) (front_all (Covers held) (step_claims grip b) (flat_map (step_claims grip) before) all)
    on false apart there later = later there

repeated : (requests : List Request) (claims more : List Claim) → AreCovered (holding requests) claims → with_claims requests (claims ++ more) ≡ with_claims requests more
repeated requests claims more covered = claims_append requests claims more ∙ ap (λ r. with_claims r more) (all_stay requests claims covered)

-- behind one look more all is covered that was
one_covered : (grip : Grip) (before : List Step) (requests : List Request) (s : Step) → AreCovered (holding requests) (flat_map (step_claims grip) before)
    → AreCovered (holding (with_claims requests (step_claims grip s))) (flat_map (step_claims grip) (before ++ s ∷ []))
one_covered grip before requests s covered =
    let behind : List Request = with_claims requests (step_claims grip s) in
    let old : AreCovered (holding behind) (flat_map (step_claims grip) before) = all_covered_more (holding requests) (holding behind) (claims_among requests (step_claims grip s)) (flat_map (step_claims grip) before) covered in
    let new : AreCovered (holding behind) (flat_map (step_claims grip) (s ∷ [])) = both_all (Covers (holding behind)) (step_claims grip s) [] (claims_covered requests (step_claims grip s)) tt in
    subst (AreCovered (holding behind)) (sym (flat_map-append (step_claims grip) before (s ∷ []))) (both_all (Covers (holding behind)) (flat_map (step_claims grip) before) (flat_map (step_claims grip) (s ∷ [])) old new)

-- ## Looks

abbrev once_then : {E A : Type 0} → List Step → ObjectKey → (Sight → Walk E A) → Sight → Walk E A
once_then before key go seen = once (before ++ step key seen ∷ []) (go seen)

abbrev looks_ask : {E A : Type 0} → Grip → List Request → Look → Walk E A → List Request
looks_ask grip requests look check = with_claims requests (flat_map (step_claims grip) (steps look check))

abbrev looks_ask_after : {E A : Type 0} → Grip → List Request → Look → Option Sight → ObjectKey → (Sight → Walk E A) → List Request
looks_ask_after grip requests look known key go = with_claims requests (flat_map (step_claims grip) (steps_after known key (λ seen. steps look (go seen))))

looks_once : {E A : Type 0} (look : Look) (grip : Grip) (before : List Step) (requests : List Request) (check : Walk E A) → Knows look before → AreCovered (holding requests) (flat_map (step_claims grip) before)
    → looks_ask grip requests look (once before check) ≡ looks_ask grip requests look check
looks_once look grip before requests (done x) knows covered = refl
looks_once look grip before requests (refuse e) knows covered = refl
looks_once {E = E} {A = A} look grip before requests (ask key go) knows covered =
    on (seen_at before key) refl (look key) refl (λ s. looks_once look grip before requests (go s) knows covered)
    (λ s. looks_once look grip (before ++ step key s ∷ []) (with_claims requests (look_claims grip key s)) (go s))
  where
    on : (o : Option Sight) → seen_at before key ≡ o → (p : Option Sight) → look key ≡ p → ((s : Sight) → looks_ask grip requests look (once before (go s)) ≡ looks_ask grip requests look (go s))
        → ((s : Sight) → Knows look (before ++ step key s ∷ []) → AreCovered (holding (with_claims requests (look_claims grip key s))) (flat_map (step_claims grip) (before ++ step key s ∷ []))
        → looks_ask grip (with_claims requests (look_claims grip key s)) look (once_then before key go s) ≡ looks_ask grip (with_claims requests (look_claims grip key s)) look (go s))
        → looks_ask grip requests look (once_at o key (λ s. once_then before key go s) (λ s. once before (go s))) ≡ looks_ask_after grip requests look (look key) key go
    on (Some s) was p is again first =
        again s ∙ sym (repeated requests (look_claims grip key s) (flat_map (step_claims grip) (steps look (go s))) (look_covered grip before (holding requests) key s was covered))
        ∙ sym (ap (λ q. looks_ask_after grip requests look q key go) (knows.at key s was))
    on None was None is again first =
        ap (λ q. looks_ask_after grip requests look q key (once_then before key go)) is ∙ sym (ap (λ q. looks_ask_after grip requests look q key go) is)
    on None was (Some s) is again first =
        ap (λ q. looks_ask_after grip requests look q key (once_then before key go)) is
        ∙ claims_append requests (look_claims grip key s) (flat_map (step_claims grip) (steps look (once_then before key go s)))
        ∙ first s (knows_more look before key s knows is) (one_covered grip before requests (step key s) covered)
        ∙ sym (claims_append requests (look_claims grip key s) (flat_map (step_claims grip) (steps look (go s))))
        ∙ sym (ap (λ q. looks_ask_after grip requests look q key go) is)

-- ## What was seen

seen_repeated : (before more : List Step) (key : ObjectKey) (seen : Sight) → seen_at before key ≡ Some seen → (other : ObjectKey) → seen_at (before ++ step key seen ∷ more) other ≡ seen_at (before ++ more) other
seen_repeated before more key seen was other = on (seen_at before other) refl
  where
    apart : seen_at before other ≡ None → (same : Bool) → is_same_place key other ≡ same → (if same then Some seen else seen_at more other) ≡ seen_at more other
    apart none true same =
        let there : seen_at before other ≡ Some seen = ap (seen_at before) (sym (same_place key other same)) ∙ was in
        absurd cc
    apart none false same = refl

    on : (o : Option Sight) → seen_at before other ≡ o → seen_at (before ++ step key seen ∷ more) other ≡ seen_at (before ++ more) other
    on (Some found) here = seen_still before (step key seen ∷ more) other found here ∙ sym (seen_still before more other found here)
    on None here = seen_behind before (step key seen ∷ more) other here ∙ apart here (is_same_place key other) refl ∙ sym (seen_behind before more other here)

seen_once : {E A : Type 0} (look : Look) (before : List Step) (check : Walk E A) → Knows look before → (other : ObjectKey) → seen_at (before ++ steps look (once before check)) other ≡ seen_at (before ++ steps look check) other
seen_once look before (done x) knows other = refl
seen_once look before (refuse e) knows other = refl
seen_once {E = E} {A = A} look before (ask key go) knows other =
    on (seen_at before key) refl (look key) refl (λ s. seen_once look before (go s) knows other) (λ s here. seen_once look (before ++ step key s ∷ []) (go s) (knows_more look before key s knows here) other)
  where
    on : (o : Option Sight) → seen_at before key ≡ o → (p : Option Sight) → look key ≡ p → ((s : Sight) → seen_at (before ++ steps look (once before (go s))) other ≡ seen_at (before ++ steps look (go s)) other)
        → ((s : Sight) → look key ≡ Some s → seen_at ((before ++ step key s ∷ []) ++ steps look (once_then before key go s)) other ≡ seen_at ((before ++ step key s ∷ []) ++ steps look (go s)) other)
        → seen_at (before ++ steps look (once_at o key (λ s. once_then before key go s) (λ s. once before (go s)))) other ≡ seen_at (before ++ steps_after (look key) key (λ s. steps look (go s))) other
    on (Some s) was p is again first =
        again s ∙ sym (seen_repeated before (steps look (go s)) key s was other)
        ∙ sym (ap (λ q. seen_at (before ++ steps_after q key (λ t. steps look (go t))) other) (knows.at key s was))
    on None was None is again first =
        ap (λ q. seen_at (before ++ steps_after q key (λ t. steps look (once_then before key go t))) other) is
        ∙ sym (ap (λ q. seen_at (before ++ steps_after q key (λ t. steps look (go t))) other) is)
    on None was (Some s) is again first =
        ap (λ q. seen_at (before ++ steps_after q key (λ t. steps look (once_then before key go t))) other) is
        ∙ ap (λ l. seen_at l other) (sym (append_assoc before (step key s ∷ []) (steps look (once_then before key go s))))
        ∙ first s is
        ∙ ap (λ l. seen_at l other) (append_assoc before (step key s ∷ []) (steps look (go s)))
        ∙ sym (ap (λ q. seen_at (before ++ steps_after q key (λ t. steps look (go t))) other) is)

-- ## What is changed

abbrev keys_at : Option Sight → List ForeignKeyDef
keys_at None = []
keys_at (Some seen) = keys_seen seen

at_place : (key : ObjectKey) (object : ObjName) → is_at object key ≡ is_same_place key (keys.Object object)
at_place keys.Schemas object = refl
at_place (keys.Schema name) object = refl
at_place (keys.Objects schema) object = refl
at_place (keys.Object other) object = refl
at_place (keys.Children parent) object = refl
at_place (keys.Constraint schema folded) object = refl

keys_by_seen : (taken : List Step) (object : ObjName) → keys_before taken object ≡ keys_at (seen_at taken (keys.Object object))
keys_by_seen [] object = refl
keys_by_seen (s ∷ taken) object = on (is_at object s.key) (is_same_place s.key (keys.Object object)) (at_place s.key object) (keys_by_seen taken object)
  where
    on : (a b : Bool) → a ≡ b → keys_before taken object ≡ keys_at (seen_at taken (keys.Object object)) → (if a then keys_seen s.seen else keys_before taken object) ≡ keys_at (if b then Some s.seen else seen_at taken (keys.Object object))
    on true true is later = refl
    on true false is later = absurd cc
    on false true is later = absurd cc
    on false false is later = later

module _ (one other : List Step) (same : (object : ObjName) → keys_before one object ≡ keys_before other object) where
  at_same : (key : ObjectKey) (after : After) → claims_at one key after ≡ claims_at other key after
  at_same keys.Schemas after = refl
  at_same (keys.Schema name) after = refl
  at_same (keys.Objects schema) after = refl
  at_same (keys.Object object) after = ap (λ before. ChangeCatalog ∷ ChangeObject object ∷ flat_map (key_claims object before) (keys_left after)) (same object)
  at_same (keys.Children parent) after = refl
  at_same (keys.Constraint schema folded) after = refl

  changes_same : (changes : List Change) → flat_map (change_claims one) changes ≡ flat_map (change_claims other) changes
  changes_same [] = refl
  changes_same (c ∷ changes) = λ i. at_same c.key c.after i ++ changes_same changes i

  choice_same : (choice : Choice) → choice_claims one choice ≡ choice_claims other choice
  choice_same Same = refl
  choice_same (Changes changes session) = changes_same changes
  choice_same (Lists listing) = refl

  found_same : (found : Found ErrorValue Choice) → found_claims one found ≡ found_claims other found
  found_same (fine choice) = choice_same choice
  found_same (refused error) = refl
  found_same (needs key) = refl

keys_once : {E A : Type 0} (look : Look) (check : Walk E A) (object : ObjName) → keys_before (steps look (once [] check)) object ≡ keys_before (steps look check) object
keys_once look check object =
    keys_by_seen (steps look (once [] check)) object ∙ ap keys_at (seen_once look [] check (knows_nothing look) (keys.Object object)) ∙ sym (keys_by_seen (steps look check) object)

-- ## All locks

abbrev asked_by : Intent → List Step → Found ErrorValue Choice → List Request
asked_by intent taken found = with_claims [] (intent.claims ++ (flat_map (step_claims intent.grip) taken ++ found_claims taken found))

parts : (intent : Intent) (looks ends : List Claim) → with_claims [] (intent.claims ++ (looks ++ ends)) ≡ with_claims (with_claims (with_claims [] intent.claims) looks) ends
parts intent looks ends = claims_append [] intent.claims (looks ++ ends) ∙ claims_append (with_claims [] intent.claims) looks ends

once_asks : (intent : Intent) (look : Look) (check : Walk ErrorValue Choice) (found : Found ErrorValue Choice) → asked_by intent (steps look (once [] check)) found ≡ asked_by intent (steps look check) found
once_asks intent look check found =
    let text : List Request = with_claims [] intent.claims in
    let once_taken : List Step = steps look (once [] check) in
    let taken : List Step = steps look check in
    parts intent (flat_map (step_claims intent.grip) once_taken) (found_claims once_taken found)
    ∙ ap (λ r. with_claims r (found_claims once_taken found)) (looks_once look intent.grip [] text check (knows_nothing look) tt)
    ∙ ap (with_claims (with_claims text (flat_map (step_claims intent.grip) taken))) (found_same once_taken taken (keys_once look check) found)
    ∙ sym (parts intent (flat_map (step_claims intent.grip) taken) (found_claims taken found))

locks_are : (intent : Intent) (look : Look) (check : Walk ErrorValue Choice) → asked_by intent (steps look check) (run look check) ≡ locks intent (steps look check) (rest look check)
unfolding locks
locks_are intent look check = ap (λ ends. with_claims [] (intent.claims ++ (flat_map (step_claims intent.grip) (steps look check) ++ ends))) (sym (ends_found look check (steps look check)))

-- of a client that was told each key as its check needed it
pub told_locks : (intent : Intent) (look : Look) (taken : List Step) (check : Walk ErrorValue Choice) → IsTold look taken check
    → with_claims [] (intent.claims ++ (flat_map (step_claims intent.grip) taken ++ found_claims taken (run look check))) ≡ locks intent (steps look check) (rest look check)
told_locks intent look taken check is =
    ap (λ l. asked_by intent l (run look check)) (sym is.needed) ∙ once_asks intent look check (run look check) ∙ locks_are intent look check

-- and its changes claim the same
pub told_choice : (look : Look) (taken : List Step) (check : Walk ErrorValue Choice) (choice : Choice) → IsTold look taken check → choice_claims taken choice ≡ choice_claims (steps look check) choice
told_choice look taken check choice is = ap (λ l. choice_claims l choice) (sym is.needed) ∙ choice_same (steps look (once [] check)) (steps look check) (keys_once look check) choice
