-- A client that is told each key as its check needs it has the steps of its check in its list.
use Rattle.std.specs.Prelude.{◌≡◌, Bool, true, false, List, [], ◌∷◌, ◌++◌, Option, Some, None, if◌then◌else◌, refl}
use Rattle.std.proofs.Common.{sym, ◌∙◌, ap, subst, append_assoc}
use Rattle.std.proofs.lemmas.List.{append-nil}
use Rattle.dd_names.specs.declared.object_name.ObjectKey.{ObjectKey}
use Rattle.dd_catalog.specs.Sights.{Sight}
use Rattle.dd_catalog.specs.Walks.{Walk, done, refuse, ask, Found, needs, told, run}
use Rattle.dd_catalog.specs.WalkLaws.{Look, needed_unknown}
use Rattle.rules_locks.specs.Steps.{Step, step, steps, steps_after}
use Rattle.rules_locks.specs.Told.{is_same_place, seen_at, once_at, once, IsTold}
use Rattle.rules_locks.proofs.Places.{place_itself, same_place}

-- ## One more step

pub seen_behind : (before more : List Step) (key : ObjectKey) → seen_at before key ≡ None → seen_at (before ++ more) key ≡ seen_at more key
seen_behind [] more key none = refl
seen_behind (b ∷ before) more key none = on (is_same_place b.key key) none (seen_behind before more key)
  where
    on : (same : Bool) → ◌≡◌ {A = Option Sight} (if same then Some b.seen else seen_at before key) None → (seen_at before key ≡ None → seen_at (before ++ more) key ≡ seen_at more key)
        → (if same then Some b.seen else seen_at (before ++ more) key) ≡ seen_at more key
    on true is later = cc
    on false is later = later is

seen_more : (before : List Step) (s : Step) (key : ObjectKey) → seen_at before key ≡ None → seen_at (before ++ s ∷ []) key ≡ (if is_same_place s.key key then Some s.seen else None)
seen_more before s key none = seen_behind before (s ∷ []) key none

pub seen_still : (before more : List Step) (key : ObjectKey) (seen : Sight) → seen_at before key ≡ Some seen → seen_at (before ++ more) key ≡ Some seen
seen_still [] more key seen is = cc
seen_still (b ∷ before) more key seen is = on (is_same_place b.key key) is (seen_still before more key seen)
  where
    on : (same : Bool) → (if same then Some b.seen else seen_at before key) ≡ Some seen → (seen_at before key ≡ Some seen → seen_at (before ++ more) key ≡ Some seen) → (if same then Some b.seen else seen_at (before ++ more) key) ≡ Some seen
    on true is later = is
    on false is later = later is

-- ## Without a second look

-- what the steps saw is known
pub record Knows (look : Look) (known : List Step) : Type 0 where
  pub at : (key : ObjectKey) (seen : Sight) → seen_at known key ≡ Some seen → look key ≡ Some seen

pub knows_more : (look : Look) (before : List Step) (key : ObjectKey) (seen : Sight) → Knows look before → look key ≡ Some seen → Knows look (before ++ step key seen ∷ [])
knows_more look before key seen knows here = record { at = λ other there is. on other there (seen_at before other) refl is }
  where
    new : (other : ObjectKey) (there : Sight) (same : Bool) → is_same_place key other ≡ same → ◌≡◌ {A = Option Sight} (if same then Some seen else None) (Some there) → look other ≡ Some there
    new other there true same e = ap look (sym (same_place key other same)) ∙ here ∙ e
    new other there false apart e = cc

    on : (other : ObjectKey) (there : Sight) (o : Option Sight) → seen_at before other ≡ o → seen_at (before ++ step key seen ∷ []) other ≡ Some there → look other ≡ Some there
    on other there (Some found) was is = knows.at other found was ∙ sym (seen_still before (step key seen ∷ []) other found was) ∙ is
    on other there None was is = new other there (is_same_place key other) refl (sym (seen_more before (step key seen) other was) ∙ is)

pub once_runs : {E A : Type 0} (look : Look) (known : List Step) (check : Walk E A) → Knows look known → run look (once known check) ≡ run look check
once_runs look known (done x) knows = refl
once_runs look known (refuse e) knows = refl
once_runs {E = E} {A = A} look known (ask key go) knows =
    on (seen_at known key) refl (look key) refl (λ seen. once_runs look known (go seen) knows) (λ seen here. once_runs look (known ++ step key seen ∷ []) (go seen) (knows_more look known key seen knows here))
  where
    on : (o : Option Sight) → seen_at known key ≡ o → (p : Option Sight) → look key ≡ p → ((seen : Sight) → run look (once known (go seen)) ≡ run look (go seen))
        → ((seen : Sight) → look key ≡ Some seen → run look (once (known ++ step key seen ∷ []) (go seen)) ≡ run look (go seen))
        → run look (once_at o key (λ seen. once (known ++ step key seen ∷ []) (go seen)) (λ seen. once known (go seen))) ≡ told {E = E} {A = A} (look key) key (λ seen. run look (go seen))
    on (Some seen) was p is again first = again seen ∙ sym (ap (λ o. told {E = E} {A = A} o key (λ seen. run look (go seen))) (knows.at key seen was))
    on None was None is again first =
        ap (λ o. told {E = E} {A = A} o key (λ seen. run look (once (known ++ step key seen ∷ []) (go seen)))) is
        ∙ sym (ap (λ o. told {E = E} {A = A} o key (λ seen. run look (go seen))) is)
    on None was (Some seen) is again first =
        ap (λ o. told {E = E} {A = A} o key (λ seen. run look (once (known ++ step key seen ∷ []) (go seen)))) is
        ∙ first seen is
        ∙ sym (ap (λ o. told {E = E} {A = A} o key (λ seen. run look (go seen))) is)

pub knows_nothing : (look : Look) → Knows look []
knows_nothing look = record { at = λ key seen is. cc }

-- ## One more key that is told

-- where no more is known than was seen before, no step is taken
pub no_step : {E A : Type 0} (look : Look) (known : List Step) (check : Walk E A) → ((key : ObjectKey) → look key ≡ seen_at known key) → steps look (once known check) ≡ []
no_step look known (done x) same = refl
no_step look known (refuse e) same = refl
no_step {E = E} {A = A} look known (ask key go) same = on (seen_at known key) (same key) (λ seen. no_step look known (go seen) same)
  where
    on : (o : Option Sight) → look key ≡ o → ((seen : Sight) → steps look (once known (go seen)) ≡ [])
        → steps look (once_at o key (λ seen. once (known ++ step key seen ∷ []) (go seen)) (λ seen. once known (go seen))) ≡ []
    on (Some seen) is again = again seen
    on None is again = ap (λ o. steps_after o key (λ seen. steps look (once (known ++ step key seen ∷ []) (go seen)))) is

-- what is known before the key is told, and then
pub record Grows (look more : Look) (key : ObjectKey) (seen : Sight) (all : List Step) : Type 0 where
  pub one : (k : ObjectKey) → look k ≡ seen_at all k
  pub two : (k : ObjectKey) → more k ≡ seen_at (all ++ step key seen ∷ []) k

abbrev steps_then : {E A : Type 0} → List Step → ObjectKey → (Sight → Walk E A) → Look → Sight → List Step
steps_then before k go known s = steps known (once (before ++ step k s ∷ []) (go s))

abbrev runs_then : {E A : Type 0} → List Step → ObjectKey → (Sight → Walk E A) → Look → Sight → Found E A
runs_then before k go known s = run known (once (before ++ step k s ∷ []) (go s))

step_added : {E A : Type 0} (look more : Look) (key : ObjectKey) (seen : Sight) (before tail : List Step) (check : Walk E A) → Grows look more key seen (before ++ tail)
    → steps look (once before check) ≡ tail → run look (once before check) ≡ needs key → steps more (once before check) ≡ tail ++ step key seen ∷ []
step_added look more key seen before tail (done x) grows taken needed = cc
step_added look more key seen before tail (refuse e) grows taken needed = cc
step_added {E = E} {A = A} look more key seen before tail (ask k go) grows taken needed =
    on (seen_at before k) refl (λ s. step_added look more key seen before tail (go s) grows)
    (λ s. step_added look more key seen (before ++ step k s ∷ []) (steps look (once (before ++ step k s ∷ []) (go s))) (go s)) taken needed
  where
    -- the key is the one that is needed
    last : seen_at before k ≡ None → tail ≡ [] → k ≡ key → steps_after (more k) k (λ s. steps_then before k go more s) ≡ tail ++ step key seen ∷ []
    last was none same =
        let two_here : (other : ObjectKey) → more other ≡ seen_at (before ++ step k seen ∷ []) other =
        λ other. grows.two other ∙ ap (λ l. seen_at (l ++ step key seen ∷ []) other) (ap (λ l. before ++ l) none ∙ append-nil before) ∙ ap (λ q. seen_at (before ++ step q seen ∷ []) other) (sym same) in
        let here : more k ≡ Some seen = two_here k ∙ seen_more before (step k seen) k was ∙ ap (λ (b : Bool). if b then Some seen else None) (place_itself k) in
        ap (λ o. steps_after o k (λ s. steps_then before k go more s)) here
        ∙ ap (λ l. step k seen ∷ l) (no_step more (before ++ step k seen ∷ []) (go seen) two_here)
        ∙ ap (λ q. step q seen ∷ []) same
        ∙ sym (ap (λ l. l ++ step key seen ∷ []) none)

    -- it is known
    known : (s : Sight) → look k ≡ Some s → step k s ∷ steps_then before k go look s ≡ tail
        → (Grows look more key seen ((before ++ step k s ∷ []) ++ steps_then before k go look s) → steps_then before k go more s ≡ steps_then before k go look s ++ step key seen ∷ [])
        → steps_after (more k) k (λ s. steps_then before k go more s) ≡ tail ++ step key seen ∷ []
    known s is taken later =
        let here : more k ≡ Some s = grows.two k ∙ seen_still (before ++ tail) (step key seen ∷ []) k s (sym (grows.one k) ∙ is) in
        let all : before ++ tail ≡ (before ++ step k s ∷ []) ++ steps_then before k go look s = ap (λ l. before ++ l) (sym taken) ∙ sym (append_assoc before (step k s ∷ []) (steps_then before k go look s)) in
        ap (λ o. steps_after o k (λ s. steps_then before k go more s)) here
        ∙ ap (λ l. step k s ∷ l) (later (subst (Grows look more key seen) all grows))
        ∙ ap (λ l. l ++ step key seen ∷ []) taken

    at : seen_at before k ≡ None → (found : Option Sight) → look k ≡ found
        → ((s : Sight) → Grows look more key seen ((before ++ step k s ∷ []) ++ steps_then before k go look s) → steps_then before k go look s ≡ steps_then before k go look s → runs_then before k go look s ≡ needs key → steps_then before k go more s ≡ steps_then before k go look s ++ step key seen ∷ [])
        → steps_after found k (λ s. steps_then before k go look s) ≡ tail → told {E = E} {A = A} found k (λ s. runs_then before k go look s) ≡ needs key
        → steps_after (more k) k (λ s. steps_then before k go more s) ≡ tail ++ step key seen ∷ []
    at was None is later taken needed = let same : k ≡ key = cc in last was (sym taken) same
    at was (Some s) is later taken needed = known s is taken (λ all_grow. later s all_grow refl needed)

    on : (o : Option Sight) → seen_at before k ≡ o
        → ((s : Sight) → steps look (once before (go s)) ≡ tail → run look (once before (go s)) ≡ needs key → steps more (once before (go s)) ≡ tail ++ step key seen ∷ [])
        → ((s : Sight) → Grows look more key seen ((before ++ step k s ∷ []) ++ steps_then before k go look s) → steps_then before k go look s ≡ steps_then before k go look s → runs_then before k go look s ≡ needs key → steps_then before k go more s ≡ steps_then before k go look s ++ step key seen ∷ [])
        → steps look (once_at o k (λ s. once (before ++ step k s ∷ []) (go s)) (λ s. once before (go s))) ≡ tail
        → run look (once_at o k (λ s. once (before ++ step k s ∷ []) (go s)) (λ s. once before (go s))) ≡ needs key
        → steps more (once_at o k (λ s. once (before ++ step k s ∷ []) (go s)) (λ s. once before (go s))) ≡ tail ++ step key seen ∷ []
    on (Some s) was again first taken needed = again s taken needed
    on None was again first taken needed = at was (look k) refl first taken needed

-- a client is told the key that its check needs
pub told_more : {E A : Type 0} (look more : Look) (all : List Step) (check : Walk E A) (key : ObjectKey) (seen : Sight) → IsTold look all check → run look check ≡ needs key
    → more key ≡ Some seen → ((other : ObjectKey) → is_same_place key other ≡ false → more other ≡ look other) → IsTold more (all ++ step key seen ∷ []) check
told_more look more all check key seen was needed here others = record { known = knows; needed = step_added look more key seen [] all check (record { one = was.known; two = knows }) was.needed (once_runs look [] check (knows_nothing look) ∙ needed) }
  where
    unknown : seen_at all key ≡ None
    unknown = sym (was.known key) ∙ needed_unknown look check key needed

    knows : (k : ObjectKey) → more k ≡ seen_at (all ++ step key seen ∷ []) k
    knows k = on (is_same_place key k) refl (seen_at all k) refl
      where
        on : (b : Bool) → is_same_place key k ≡ b → (o : Option Sight) → seen_at all k ≡ o → more k ≡ seen_at (all ++ step key seen ∷ []) k
        on true same o was_there =
            let is : key ≡ k = same_place key k same in
            ap more (sym is) ∙ here ∙ sym (ap (λ (b : Bool). if b then Some seen else None) same) ∙ sym (seen_more all (step key seen) k (ap (seen_at all) (sym is) ∙ unknown))
        on false apart (Some found) was_there = others k apart ∙ was.known k ∙ was_there ∙ sym (seen_still all (step key seen ∷ []) k found was_there)
        on false apart None was_there = others k apart ∙ was.known k ∙ was_there ∙ sym (ap (λ (b : Bool). if b then Some seen else None) apart) ∙ sym (seen_more all (step key seen) k was_there)

-- in the beginning it is told nothing
nothing_asked : {E A : Type 0} (look : Look) (check : Walk E A) → ((key : ObjectKey) → look key ≡ None) → steps look (once [] check) ≡ []
nothing_asked look check none = no_step look [] check none

pub told_nothing : {E A : Type 0} (look : Look) (check : Walk E A) → ((key : ObjectKey) → look key ≡ None) → IsTold look [] check
told_nothing look check none = record { known = none; needed = nothing_asked look check none }

-- the same of a client that knows what its list has
pub told_next : {E A : Type 0} (all : List Step) (check : Walk E A) (key : ObjectKey) (seen : Sight) → IsTold (seen_at all) all check → run (seen_at all) check ≡ needs key
    → IsTold (seen_at (all ++ step key seen ∷ [])) (all ++ step key seen ∷ []) check
told_next all check key seen was needed = told_more (seen_at all) (seen_at (all ++ step key seen ∷ [])) all check key seen was needed here others
  where
    unknown : seen_at all key ≡ None
    unknown = needed_unknown (seen_at all) check key needed

    here : seen_at (all ++ step key seen ∷ []) key ≡ Some seen
    here = seen_more all (step key seen) key unknown ∙ ap (λ (b : Bool). if b then Some seen else None) (place_itself key)

    others : (other : ObjectKey) → is_same_place key other ≡ false → seen_at (all ++ step key seen ∷ []) other ≡ seen_at all other
    others other apart = on (seen_at all other) refl
      where
        on : (o : Option Sight) → seen_at all other ≡ o → seen_at (all ++ step key seen ∷ []) other ≡ seen_at all other
        on (Some found) was_there = seen_still all (step key seen ∷ []) other found was_there ∙ sym was_there
        on None was_there = seen_more all (step key seen) other was_there ∙ ap (λ (b : Bool). if b then Some seen else None) apart ∙ sym was_there
