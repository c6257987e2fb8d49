-- Loops that run a check at each item of a list, one turn after another: at turn `at` the check that is left is that of the
-- items from there on.
use Rattle.std.specs.Prelude.{◌≡◌, ℕ, ◌+◌, ◌<◌, ◌≤◌, List, [], ◌∷◌, ◌++◌, length, drop, Bool, true, false, if◌then◌else◌, refl}
use Rattle.std.proofs.Common.{sym, ◌∙◌, ap, get_or, append_assoc}
use Rattle.std.proofs.lemmas.List.{append-nil, drop_more, drop_all}
use Rattle.dd_errors.specs.Errors.{ErrorValue}
use Rattle.dd_catalog.specs.declared.stop.Stop.{Stop}
use Rattle.dd_catalog.specs.declared.stop.Stop.TheVariants as stops
use Rattle.dd_catalog.specs.Walks.{Walk, done, Found, fine, refused, needs, run, each, every, picked, over}
use Rattle.dd_catalog.specs.WalkLaws.{Look, go_on, run_bind}
use Rattle.dd_catalog.specs.Follow.{Stops}

-- ## One turn

-- a first part came to a value, so all comes to what is left by it
pub goes_on : {E A B : Type 0} (found : Found E A) (next : A → Found E B) (x : A) (total : Found E B) → found ≡ fine x → go_on found next ≡ total → next x ≡ total
goes_on found next x total is all = sym (ap (λ f. go_on f next) is) ∙ all

-- a first part stopped, so all stops
pub stops_all : {A B : Type 0} (stop : Stop) (found : Found ErrorValue A) (next : A → Found ErrorValue B) (total : Found ErrorValue B) → Stops stop found → go_on found next ≡ total → Stops stop total
stops_all (stops.Refused error) found next total is all = sym all ∙ ap (λ f. go_on f next) is
stops_all (stops.Need key) found next total is all = sym all ∙ ap (λ f. go_on f next) is
stops_all stops.Memory found next total is all = tt

from_item : {A : Type 0} (xs : List A) (at : ℕ) (x : A) → at < length xs → x ≡ get_or xs at x → drop at xs ≡ x ∷ drop (at + 1) xs
from_item xs at x lt is = drop_more xs at x lt ∙ ap (λ y. y ∷ drop (at + 1) xs) (sym is)

-- the values of the turns so far, in front of those that are left
abbrev pub with_front : {E A : Type 0} → List A → Found E (List A) → Found E (List A)
with_front front found = go_on found (λ ys. fine (front ++ ys))

-- ## Every item passes

every_at : {E A : Type 0} (look : Look) (check : A → Walk E (Unit {0})) (xs : List A) (at : ℕ) (x : A) → at < length xs → x ≡ get_or xs at x
    → run look (every check (drop at xs)) ≡ go_on (run look (check x)) (λ _. run look (every check (drop (at + 1) xs)))
every_at look check xs at x lt is = ap (λ rest. run look (every check rest)) (from_item xs at x lt is) ∙ run_bind look (check x) _

pub every_step : {E A : Type 0} (look : Look) (check : A → Walk E (Unit {0})) (xs : List A) (at : ℕ) (x : A) (total : Found E (Unit {0})) → at < length xs → x ≡ get_or xs at x
    → run look (check x) ≡ fine tt → run look (every check (drop at xs)) ≡ total → run look (every check (drop (at + 1) xs)) ≡ total
every_step look check xs at x total lt is passed so_far = goes_on (run look (check x)) (λ _. run look (every check (drop (at + 1) xs))) tt total passed (sym (every_at look check xs at x lt is) ∙ so_far)

pub every_end : {E A : Type 0} (look : Look) (check : A → Walk E (Unit {0})) (xs : List A) (at : ℕ) (total : Found E (Unit {0})) → length xs ≤ at
    → run look (every check (drop at xs)) ≡ total → total ≡ fine tt
every_end look check xs at total le so_far = sym so_far ∙ ap (λ rest. run look (every check rest)) (drop_all at xs le)

pub every_stop : {A : Type 0} (stop : Stop) (look : Look) (check : A → Walk ErrorValue (Unit {0})) (xs : List A) (at : ℕ) (x : A) (total : Found ErrorValue (Unit {0})) → at < length xs → x ≡ get_or xs at x
    → Stops stop (run look (check x)) → run look (every check (drop at xs)) ≡ total → Stops stop total
every_stop stop look check xs at x total lt is stopped so_far = stops_all stop (run look (check x)) _ total stopped (sym (every_at look check xs at x lt is) ∙ so_far)

-- ## What the items make of a state

over_at : {E S A : Type 0} (look : Look) (check : S → A → Walk E S) (xs : List A) (at : ℕ) (x : A) (state : S) → at < length xs → x ≡ get_or xs at x
    → run look (over check state (drop at xs)) ≡ go_on (run look (check state x)) (λ next. run look (over check next (drop (at + 1) xs)))
over_at look check xs at x state lt is = ap (λ rest. run look (over check state rest)) (from_item xs at x lt is) ∙ run_bind look (check state x) _

pub over_step : {E S A : Type 0} (look : Look) (check : S → A → Walk E S) (xs : List A) (at : ℕ) (x : A) (state next : S) (total : Found E S) → at < length xs → x ≡ get_or xs at x
    → run look (check state x) ≡ fine next → run look (over check state (drop at xs)) ≡ total → run look (over check next (drop (at + 1) xs)) ≡ total
over_step look check xs at x state next total lt is made so_far =
    goes_on (run look (check state x)) (λ after. run look (over check after (drop (at + 1) xs))) next total made (sym (over_at look check xs at x state lt is) ∙ so_far)

pub over_end : {E S A : Type 0} (look : Look) (check : S → A → Walk E S) (xs : List A) (at : ℕ) (state : S) (total : Found E S) → length xs ≤ at
    → run look (over check state (drop at xs)) ≡ total → total ≡ fine state
over_end look check xs at state total le so_far = sym so_far ∙ ap (λ rest. run look (over check state rest)) (drop_all at xs le)

pub over_stop : {S A : Type 0} (stop : Stop) (look : Look) (check : S → A → Walk ErrorValue S) (xs : List A) (at : ℕ) (x : A) (state : S) (total : Found ErrorValue S) → at < length xs → x ≡ get_or xs at x
    → Stops stop (run look (check state x)) → run look (over check state (drop at xs)) ≡ total → Stops stop total
over_stop stop look check xs at x state total lt is stopped so_far = stops_all stop (run look (check state x)) _ total stopped (sym (over_at look check xs at x state lt is) ∙ so_far)

-- ## A value for each item

regroup : {E A : Type 0} (front : List A) (y : A) (found : Found E (List A)) → with_front front (go_on found (λ ys. fine (y ∷ ys))) ≡ with_front (front ++ y ∷ []) found
regroup {E = E} {A = A} front y (fine ys) = let answer : List A → Found E (List A) = λ zs. fine zs in ap answer (simp append_assoc)
regroup front y (refused e) = refl
regroup front y (needs key) = refl

front_moves : {E A : Type 0} (front : List A) (first : Found E A) (rest : Found E (List A))
    → with_front front (go_on first (λ y. go_on rest (λ ys. fine (y ∷ ys)))) ≡ go_on first (λ y. with_front (front ++ y ∷ []) rest)
front_moves front (fine y) rest = regroup front y rest
front_moves front (refused e) rest = refl
front_moves front (needs key) rest = refl

each_cons : {E A B : Type 0} (look : Look) (check : A → Walk E B) (x : A) (xs : List A)
    → run look (each check (x ∷ xs)) ≡ go_on (run look (check x)) (λ y. go_on (run look (each check xs)) (λ ys. fine (y ∷ ys)))
each_cons look check x xs = run_bind look (check x) _ ∙ ap (go_on (run look (check x))) (λ i y. run_bind look (each check xs) (λ ys. done (y ∷ ys)) i)

each_at : {E A B : Type 0} (look : Look) (check : A → Walk E B) (xs : List A) (at : ℕ) (x : A) (front : List B) → at < length xs → x ≡ get_or xs at x
    → with_front front (run look (each check (drop at xs))) ≡ go_on (run look (check x)) (λ y. with_front (front ++ y ∷ []) (run look (each check (drop (at + 1) xs))))
each_at look check xs at x front lt is =
    ap (λ rest. with_front front (run look (each check rest))) (from_item xs at x lt is)
    ∙ ap (with_front front) (each_cons look check x (drop (at + 1) xs))
    ∙ front_moves front (run look (check x)) (run look (each check (drop (at + 1) xs)))

pub each_step : {E A B : Type 0} (look : Look) (check : A → Walk E B) (xs : List A) (at : ℕ) (x : A) (y : B) (front : List B) (total : Found E (List B)) → at < length xs → x ≡ get_or xs at x
    → run look (check x) ≡ fine y → with_front front (run look (each check (drop at xs))) ≡ total → with_front (front ++ y ∷ []) (run look (each check (drop (at + 1) xs))) ≡ total
each_step look check xs at x y front total lt is made so_far =
    goes_on (run look (check x)) (λ z. with_front (front ++ z ∷ []) (run look (each check (drop (at + 1) xs)))) y total made (sym (each_at look check xs at x front lt is) ∙ so_far)

pub each_end : {E A B : Type 0} (look : Look) (check : A → Walk E B) (xs : List A) (at : ℕ) (front : List B) (total : Found E (List B)) → length xs ≤ at
    → with_front front (run look (each check (drop at xs))) ≡ total → total ≡ fine front
each_end {E = E} {B = B} look check xs at front total le so_far =
    let answer : List B → Found E (List B) = λ ys. fine ys in
    sym so_far ∙ ap (λ rest. with_front front (run look (each check rest))) (drop_all at xs le) ∙ ap answer (append-nil front)

pub each_stop : {A B : Type 0} (stop : Stop) (look : Look) (check : A → Walk ErrorValue B) (xs : List A) (at : ℕ) (x : A) (front : List B) (total : Found ErrorValue (List B)) → at < length xs → x ≡ get_or xs at x
    → Stops stop (run look (check x)) → with_front front (run look (each check (drop at xs))) ≡ total → Stops stop total
each_stop stop look check xs at x front total lt is stopped so_far = stops_all stop (run look (check x)) _ total stopped (sym (each_at look check xs at x front lt is) ∙ so_far)

-- ## The items that the check picks

-- the items picked so far, with this one where it is picked
abbrev pub with_picked : {A : Type 0} → Bool → List A → A → List A
with_picked picks front x = if picks then front ++ x ∷ [] else front

nothing_more : {E A : Type 0} (found : Found E (List A)) → go_on found (λ ys. fine ys) ≡ found
nothing_more (fine ys) = refl
nothing_more (refused e) = refl
nothing_more (needs key) = refl

pick_moves : {E A : Type 0} (front : List A) (x : A) (first : Found E Bool) (rest : Found E (List A))
    → with_front front (go_on first (λ picks. go_on rest (λ ys. fine (if picks then x ∷ ys else ys)))) ≡ go_on first (λ picks. with_front (with_picked picks front x) rest)
pick_moves front x (fine true) rest = regroup front x rest
pick_moves front x (fine false) rest = ap (with_front front) (nothing_more rest)
pick_moves front x (refused e) rest = refl
pick_moves front x (needs key) rest = refl

picked_cons : {E A : Type 0} (look : Look) (check : A → Walk E Bool) (x : A) (xs : List A)
    → run look (picked check (x ∷ xs)) ≡ go_on (run look (check x)) (λ picks. go_on (run look (picked check xs)) (λ ys. fine (if picks then x ∷ ys else ys)))
picked_cons look check x xs = run_bind look (check x) _ ∙ ap (go_on (run look (check x))) (λ i picks. run_bind look (picked check xs) (λ ys. done (if picks then x ∷ ys else ys)) i)

picked_at : {E A : Type 0} (look : Look) (check : A → Walk E Bool) (xs : List A) (at : ℕ) (x : A) (front : List A) → at < length xs → x ≡ get_or xs at x
    → with_front front (run look (picked check (drop at xs))) ≡ go_on (run look (check x)) (λ picks. with_front (with_picked picks front x) (run look (picked check (drop (at + 1) xs))))
picked_at look check xs at x front lt is =
    ap (λ rest. with_front front (run look (picked check rest))) (from_item xs at x lt is)
    ∙ ap (with_front front) (picked_cons look check x (drop (at + 1) xs))
    ∙ pick_moves front x (run look (check x)) (run look (picked check (drop (at + 1) xs)))

pub picked_step : {E A : Type 0} (look : Look) (check : A → Walk E Bool) (xs : List A) (at : ℕ) (x : A) (picks : Bool) (front : List A) (total : Found E (List A)) → at < length xs → x ≡ get_or xs at x
    → run look (check x) ≡ fine picks → with_front front (run look (picked check (drop at xs))) ≡ total → with_front (with_picked picks front x) (run look (picked check (drop (at + 1) xs))) ≡ total
picked_step look check xs at x picks front total lt is made so_far =
    goes_on (run look (check x)) (λ p. with_front (with_picked p front x) (run look (picked check (drop (at + 1) xs)))) picks total made (sym (picked_at look check xs at x front lt is) ∙ so_far)

pub picked_end : {E A : Type 0} (look : Look) (check : A → Walk E Bool) (xs : List A) (at : ℕ) (front : List A) (total : Found E (List A)) → length xs ≤ at
    → with_front front (run look (picked check (drop at xs))) ≡ total → total ≡ fine front
picked_end {E = E} {A = A} look check xs at front total le so_far =
    let answer : List A → Found E (List A) = λ ys. fine ys in
    sym so_far ∙ ap (λ rest. with_front front (run look (picked check rest))) (drop_all at xs le) ∙ ap answer (append-nil front)

pub picked_stop : {A : Type 0} (stop : Stop) (look : Look) (check : A → Walk ErrorValue Bool) (xs : List A) (at : ℕ) (x : A) (front : List A) (total : Found ErrorValue (List A)) → at < length xs → x ≡ get_or xs at x
    → Stops stop (run look (check x)) → with_front front (run look (picked check (drop at xs))) ≡ total → Stops stop total
picked_stop stop look check xs at x front total lt is stopped so_far = stops_all stop (run look (check x)) _ total stopped (sym (picked_at look check xs at x front lt is) ∙ so_far)
