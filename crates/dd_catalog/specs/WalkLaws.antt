-- What holds of each check.
use Rattle.std.specs.Prelude.{◌≡◌, ℕ, ◌+◌, ◌<◌, ◌≤◌, Option, Some, None, refl}
use Rattle.std.specs.List.{AllByRecursion}
use Rattle.std.proofs.Common.{sym, ◌∙◌, ap, subst, arith}
use Rattle.dd_names.specs.declared.object_name.ObjectKey.{ObjectKey}
use Rattle.dd_catalog.specs.Sights.{Sight}
use Rattle.dd_catalog.specs.Walks.{Walk, done, refuse, ask, ◌>>=◌, Found, fine, refused, needs, told, run, asked, asked_after}

-- what is known at each key
abbrev pub Look : Type 0
Look = ObjectKey → Option Sight

-- goes on with the value, if there is one
abbrev pub go_on : {E A B : Type 0} → Found E A → (A → Found E B) → Found E B
go_on (fine x) next = next x
go_on (refused e) next = refused e
go_on (needs key) next = needs key

-- a check that another follows comes to what the other comes to by its value
pub run_bind : {E A B : Type 0} (look : Look) (check : Walk E A) (next : A → Walk E B) → run look (check >>= next) ≡ go_on (run look check) (λ x. run look (next x))
run_bind look (done x) next = refl
run_bind look (refuse e) next = refl
run_bind {E = E} {A = A} {B = B} look (ask key go) next =
    elim (look key) as (λ known. told {E = E} {A = B} known key (λ seen. run look (go seen >>= next)) ≡ go_on {E = E} {A = A} {B = B} (told known key (λ seen. run look (go seen))) (λ x. run look (next x))) [
      | None ↦ refl
      | Some seen ↦ run_bind look (go seen) next
    ]

-- a check that came to a value goes on with it
pub run_fine : {E A B : Type 0} (look : Look) (check : Walk E A) (next : A → Walk E B) (x : A) → run look check ≡ fine x → run look (check >>= next) ≡ run look (next x)
run_fine look check next x is = run_bind look check next ∙ ap (λ found. go_on found (λ x. run look (next x))) is

-- nothing is known at the key that is needed
pub needed_unknown : {E A : Type 0} (look : Look) (check : Walk E A) (needed : ObjectKey) → run look check ≡ needs needed → look needed ≡ None
needed_unknown look (done x) needed is = cc
needed_unknown look (refuse e) needed is = cc
needed_unknown {E = E} {A = A} look (ask key go) needed is =
    elim (look key) as (λ known. look key ≡ known → told {E = E} {A = A} known key (λ seen. run look (go seen)) ≡ needs needed → look needed ≡ None) [
      | None ↦ λ here is. cc
      | Some seen ↦ λ here is. needed_unknown look (go seen) needed is
    ] refl is

-- all that is known in `look` is known in `more`
pub record Extends (look more : Look) : Type 0 where
  pub keeps : (key : ObjectKey) (seen : Sight) → look key ≡ Some seen → more key ≡ Some seen

-- no key is needed
abbrev pub IsSettled : {E A : Type 0} → Found E A → Type 0
IsSettled (fine x) = Unit {0}
IsSettled (refused e) = Unit {0}
IsSettled (needs key) = ⊥

-- where no key is needed, the check comes to the same over more that is known
pub run_more : {E A : Type 0} (look more : Look) (check : Walk E A) → Extends look more → IsSettled (run look check) → run more check ≡ run look check
run_more look more (done x) extends settled = refl
run_more look more (refuse e) extends settled = refl
run_more {E = E} {A = A} look more (ask key go) extends settled =
    elim (look key) as (λ known. look key ≡ known → IsSettled (told {E = E} {A = A} known key (λ seen. run look (go seen))) → told {E = E} {A = A} (more key) key (λ seen. run more (go seen)) ≡ told {E = E} {A = A} known key (λ seen. run look (go seen))) [
      | None ↦ λ here settled. absurd settled
      | Some seen ↦ λ here settled. ap (λ known. told {E = E} {A = A} known key (λ seen. run more (go seen))) (extends.keeps key seen here) ∙ run_more look more (go seen) extends settled
    ] refl settled

-- the check comes to the same over two look-ups that agree on the keys at which it looks
pub run_agrees : {E A : Type 0} (one other : Look) (check : Walk E A) → AllByRecursion (λ key. one key ≡ other key) (asked one check) → run one check ≡ run other check
run_agrees one other (done x) all = refl
run_agrees one other (refuse e) all = refl
run_agrees {E = E} {A = A} one other (ask key go) all =
    elim (one key) as (λ known. one key ≡ known → AllByRecursion (λ key. one key ≡ other key) (asked_after known (λ seen. asked one (go seen))) → told {E = E} {A = A} known key (λ seen. run one (go seen)) ≡ told {E = E} {A = A} (other key) key (λ seen. run other (go seen))) [
      | None ↦ λ here rest. ap (λ known. told {E = E} {A = A} known key (λ seen. run other (go seen))) (sym here ∙ all.0)
      | Some seen ↦ λ here rest. run_agrees one other (go seen) rest ∙ ap (λ known. told {E = E} {A = A} known key (λ seen. run other (go seen))) (sym here ∙ all.0)
    ] refl all.1

-- ## A check that is told what it needs comes to an end

abbrev pub untold : Option Sight → ℕ
untold None = 1
untold (Some seen) = 0

-- of the keys at which the check looks, by what stands at each, the number of those at which nothing is known
abbrev pub left : {E A : Type 0} → (ObjectKey → Sight) → Look → Walk E A → ℕ
left full look (done x) = 0
left full look (refuse e) = 0
left full look (ask key go) = untold (look key) + left full look (go (full key))

-- what is known stands there
pub record IsOf (full : ObjectKey → Sight) (look : Look) : Type 0 where
  pub stands : (key : ObjectKey) (seen : Sight) → look key ≡ Some seen → full key ≡ seen

untold_more : (less more : Option Sight) → ((seen : Sight) → less ≡ Some seen → more ≡ Some seen) → untold more ≤ untold less
untold_more None None keeps = omega arith
untold_more None (Some seen) keeps = omega arith
untold_more (Some seen) more keeps = subst (λ known. untold known ≤ 0) (sym (keeps seen refl)) (omega arith)

-- knowing more leaves no more
pub no_more_left : {E A : Type 0} (full : ObjectKey → Sight) (look more : Look) (check : Walk E A) → Extends look more → left full more check ≤ left full look check
no_more_left full look more (done x) extends = omega arith
no_more_left full look more (refuse e) extends = omega arith
no_more_left full look more (ask key go) extends =
    let here : untold (more key) ≤ untold (look key) = untold_more (look key) (more key) (extends.keeps key) in
    let rest : left full more (go (full key)) ≤ left full look (go (full key)) = no_more_left full look more (go (full key)) extends in
    omega arith

-- telling the needed key leaves fewer
pub fewer_left : {E A : Type 0} (full : ObjectKey → Sight) (look more : Look) (check : Walk E A) (needed : ObjectKey) → IsOf full look → Extends look more → more needed ≡ Some (full needed) → run look check ≡ needs needed → left full more check < left full look check
fewer_left full look more (done x) needed is extends now e = cc
fewer_left full look more (refuse x) needed is extends now e = cc
fewer_left {E = E} {A = A} full look more (ask key go) needed is extends now e =
    at (look key) refl e (fewer_left full look more (go (full key)) needed is extends now)
  where
    at : (known : Option Sight) → look key ≡ known → told {E = E} {A = A} known key (λ seen. run look (go seen)) ≡ needs needed
        → (run look (go (full key)) ≡ needs needed → left full more (go (full key)) < left full look (go (full key)))
        → untold (more key) + left full more (go (full key)) < untold (look key) + left full look (go (full key))
    at None here e again =
        let same : key ≡ needed = cc in
        let after : untold (more key) ≡ 0 = ap (λ k. untold (more k)) same ∙ ap untold now in
        let before : untold (look key) ≡ 1 = ap untold here in
        let rest : left full more (go (full key)) ≤ left full look (go (full key)) = no_more_left full look more (go (full key)) extends in
        omega arith
    at (Some seen) here e again =
        let before : untold (look key) ≡ 0 = ap untold here in
        let after : untold (more key) ≡ 0 = ap untold (extends.keeps key seen here) in
        let there : full key ≡ seen = is.stands key seen here in
        let rest : left full more (go (full key)) < left full look (go (full key)) = again (ap (λ s. run look (go s)) there ∙ e) in
        omega arith
