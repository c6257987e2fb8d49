-- The keys at which a check looks where it comes to a value.
use Rattle.std.specs.Prelude.{◌≡◌, Bool, true, false, List, [], ◌∷◌, ◌++◌, Option, Some, None, if◌then◌else◌, refl}
use Rattle.std.specs.List.{AllByRecursion}
use Rattle.std.proofs.Common.{sym, ◌∙◌, ap, subst}
use Rattle.dd_names.specs.declared.object_name.ObjectKey.{ObjectKey}
use Rattle.dd_catalog.specs.Walks.{Walk, done, refuse, ask, ◌>>=◌, Found, fine, refused, needs, told, run, asked, asked_after, look_at, refuse_if, refuse_some, each, every, picked, over}
use Rattle.dd_catalog.specs.WalkLaws.{Look, go_on, run_bind, run_agrees}

-- where the check comes to a value, it looks only at keys with P
pub record LooksAt {E A : Type 0} (P : ObjectKey → Type 0) (look : Look) (check : Walk E A) : Type 0 where
  pub all : (x : A) → run look check ≡ fine x → AllByRecursion P (asked look check)

-- ## A check that another follows

abbrev pub asked_next : {E A : Type 0} → Found E A → (A → List ObjectKey) → List ObjectKey
asked_next (fine x) next = next x
asked_next (refused e) next = []
asked_next (needs key) next = []

-- it looks at the keys of the first, and then at those of the other
pub asked_bind : {E A B : Type 0} (look : Look) (check : Walk E A) (next : A → Walk E B) → asked look (check >>= next) ≡ asked look check ++ asked_next (run look check) (λ x. asked look (next x))
asked_bind look (done x) next = refl
asked_bind look (refuse e) next = refl
asked_bind {E = E} {A = A} look (ask key go) next =
    ap (λ keys. key ∷ keys) (elim (look key) as (λ known. asked_after known (λ seen. asked look (go seen >>= next))
    ≡ asked_after known (λ seen. asked look (go seen)) ++ asked_next {E = E} {A = A} (told known key (λ seen. run look (go seen))) (λ x. asked look (next x))) [
      | None ↦ refl
      | Some seen ↦ asked_bind look (go seen) next
    ])

pub fine_is : {E A : Type 0} {x y : A} → ◌≡◌ {A = Found E A} (fine x) (fine y) → x ≡ y
fine_is e = cc

-- where both together came to a value, so did each
pub bind_fine : {E A B : Type 0} (look : Look) (check : Walk E A) (next : A → Walk E B) (y : B) → run look (check >>= next) ≡ fine y → (x : A) × (run look check ≡ fine x) × (run look (next x) ≡ fine y)
bind_fine {E = E} {A = A} {B = B} look check next y is = at (run look check) refl (sym (run_bind look check next) ∙ is)
  where
    at : (found : Found E A) → run look check ≡ found → go_on found (λ x. run look (next x)) ≡ fine y → (x : A) × (run look check ≡ fine x) × (run look (next x) ≡ fine y)
    at (fine x) found is = (x, found, is)
    at (refused e) found is = cc
    at (needs key) found is = cc

both_all : (P : ObjectKey → Type 0) (xs ys : List ObjectKey) → AllByRecursion P xs → AllByRecursion P ys → AllByRecursion P (xs ++ ys)
both_all P [] ys here there = there
both_all P (x ∷ xs) ys here there = (here.0, both_all P xs ys here.1 there)

pub looks_bind : {E A B : Type 0} (P : ObjectKey → Type 0) (look : Look) (check : Walk E A) (next : A → Walk E B) → LooksAt P look check → ((x : A) → run look check ≡ fine x → LooksAt P look (next x)) → LooksAt P look (check >>= next)
looks_bind {E = E} {A = A} {B = B} P look check next first then_next = record { all = λ y is. subst (λ keys. AllByRecursion P keys) (sym (asked_bind look check next)) (at y (run look check) refl (sym (run_bind look check next) ∙ is)) }
  where
    at : (y : B) (found : Found E A) → run look check ≡ found → go_on found (λ x. run look (next x)) ≡ fine y → AllByRecursion P (asked look check ++ asked_next found (λ x. asked look (next x)))
    at y (fine x) found is = both_all P (asked look check) (asked look (next x)) (first.all x found) ((then_next x found).all y is)
    at y (refused e) found is = cc
    at y (needs key) found is = cc

-- ## The words of checks

pub looks_done : {E A : Type 0} (P : ObjectKey → Type 0) (look : Look) (x : A) → LooksAt {E = E} P look (done x)
looks_done P look x = record { all = λ y is. tt }

pub looks_one : {E : Type 0} (P : ObjectKey → Type 0) (look : Look) (key : ObjectKey) → P key → LooksAt {E = E} P look (look_at key)
looks_one P look key holds = record { all = λ y is. (holds, elim (look key) as (λ known. AllByRecursion P (asked_after known (λ seen. []))) [ None ↦ tt | Some seen ↦ tt ]) }

pub looks_refuse_if : {E : Type 0} (P : ObjectKey → Type 0) (look : Look) (test : Bool) (e : E) → LooksAt P look (refuse_if test e)
looks_refuse_if P look true e = record { all = λ y is. tt }
looks_refuse_if P look false e = record { all = λ y is. tt }

pub looks_refuse_some : {E : Type 0} (P : ObjectKey → Type 0) (look : Look) (refusal : Option E) → LooksAt P look (refuse_some refusal)
looks_refuse_some P look None = record { all = λ y is. tt }
looks_refuse_some P look (Some e) = record { all = λ y is. tt }

pub looks_each : {E A B : Type 0} (P : ObjectKey → Type 0) (look : Look) (check : A → Walk E B) (xs : List A) → AllByRecursion (λ x. LooksAt P look (check x)) xs → LooksAt P look (each check xs)
looks_each P look check [] all = looks_done P look []
looks_each P look check (x ∷ xs) all = looks_bind P look (check x) _ all.0 (λ y _. looks_bind P look (each check xs) _ (looks_each P look check xs all.1) (λ ys _. looks_done P look (y ∷ ys)))

pub looks_every : {E A : Type 0} (P : ObjectKey → Type 0) (look : Look) (check : A → Walk E (Unit {0})) (xs : List A) → AllByRecursion (λ x. LooksAt P look (check x)) xs → LooksAt P look (every check xs)
looks_every P look check [] all = looks_done P look tt
looks_every P look check (x ∷ xs) all = looks_bind P look (check x) _ all.0 (λ _ _. looks_every P look check xs all.1)

pub looks_picked : {E A : Type 0} (P : ObjectKey → Type 0) (look : Look) (check : A → Walk E Bool) (xs : List A) → AllByRecursion (λ x. LooksAt P look (check x)) xs → LooksAt P look (picked check xs)
looks_picked P look check [] all = looks_done P look []
looks_picked P look check (x ∷ xs) all = looks_bind P look (check x) _ all.0 (λ picks _. looks_bind P look (picked check xs) _ (looks_picked P look check xs all.1) (λ ys _. looks_done P look (if picks then x ∷ ys else ys)))

pub looks_over : {E S A : Type 0} (P : ObjectKey → Type 0) (look : Look) (check : S → A → Walk E S) (state : S) (xs : List A) → AllByRecursion (λ x. (s : S) → LooksAt P look (check s x)) xs → LooksAt P look (over check state xs)
looks_over P look check state [] all = looks_done P look state
looks_over P look check state (x ∷ xs) all = looks_bind P look (check state x) _ (all.0 state) (λ next _. looks_over P look check next xs all.1)

-- ## What follows

-- the check comes to the same value over two look-ups that agree on such keys
pub same_answer : {E A : Type 0} (P : ObjectKey → Type 0) (one other : Look) (check : Walk E A) → LooksAt P one check → ((key : ObjectKey) → P key → one key ≡ other key) → (x : A) → run one check ≡ fine x → run other check ≡ fine x
same_answer P one other check looks agrees x is = sym (run_agrees one other check (agree (asked one check) (looks.all x is))) ∙ is
  where
    agree : (keys : List ObjectKey) → AllByRecursion P keys → AllByRecursion (λ key. one key ≡ other key) keys
    agree [] all = tt
    agree (key ∷ keys) all = (agrees key all.0, agree keys all.1)

-- what each turn keeps holds of the last state
pub over_keeps : {E S A : Type 0} (P : S → Type 0) (look : Look) (check : S → A → Walk E S) → ((state : S) (x : A) (next : S) → P state → run look (check state x) ≡ fine next → P next)
    → (state : S) (xs : List A) (end : S) → P state → run look (over check state xs) ≡ fine end → P end
over_keeps P look check step state [] end holds is = subst P (fine_is is) holds
over_keeps P look check step state (x ∷ xs) end holds is =
    let (next, one, rest) = bind_fine look (check state x) _ end is in
    over_keeps P look check step next xs end (step state x next holds one) rest
