-- Lists whose items pass tests, and lists without two items alike.
use Rattle.std.specs.Prelude.{◌≡◌, ℕ, ◌+◌, Bool, true, false, ◌&&◌, ◌||◌, not, List, [], ◌∷◌, ◌++◌, map, filter, length, if◌then◌else◌, refl}
use Rattle.std.specs.List.{list_any, list_all, count_by}
use Rattle.std.proofs.Common.{sym, ◌∙◌, ap, subst, arith, inl, inr}
use Rattle.std.proofs.lemmas.Bool.{true≢false, and_parts, and_from, or_cases, or_parts, or_from, or_left, or_right, not-true, not_from_false, false_from_ne_true, cond_both}
use Rattle.std.proofs.lemmas.List.Folds.{list_all-append, list_any-append}
use Rattle.std.proofs.lemmas.List.Sums.{length-filter, sum_by-append}
use Rattle.dd_definitions.specs.Distinct.{are_distinct}

-- ## Tests of all and of some

pub all_weaker : {X : Type 0} (p q : X → Bool) → ((x : X) → p x ≡ true → q x ≡ true) → (xs : List X) → list_all p xs ≡ true → list_all q xs ≡ true
all_weaker p q gives [] all = refl
all_weaker p q gives (x ∷ xs) all =
    let (here, rest) = and_parts (p x) (list_all p xs) all in
    and_from (q x) (list_all q xs) (gives x here) (all_weaker p q gives xs rest)

pub any_weaker : {X : Type 0} (p q : X → Bool) → ((x : X) → p x ≡ true → q x ≡ true) → (xs : List X) → list_any p xs ≡ true → list_any q xs ≡ true
any_weaker p q gives [] any = cc
any_weaker p q gives (x ∷ xs) any =
    elim (or_cases (p x) (list_any p xs) any) [
      | inl here ↦ or_left (q x) (list_any q xs) (gives x here)
      | inr rest ↦ or_right (q x) (list_any q xs) (any_weaker p q gives xs rest)
    ]

-- where none passes the weaker test, none passes the stronger
pub none_stronger : {X : Type 0} (p q : X → Bool) → ((x : X) → q x ≡ true → p x ≡ true) → (xs : List X) → list_any p xs ≡ false → list_any q xs ≡ false
none_stronger p q gives xs none = false_from_ne_true (list_any q xs) (λ any. true≢false (sym (any_weaker q p gives xs any) ∙ none))

-- an item that passes passes what all pass
pub some_passes : {X : Type 0} (p q : X → Bool) (xs : List X) → list_all p xs ≡ true → list_any q xs ≡ true → (x : X) × (p x ≡ true) × (q x ≡ true)
some_passes p q [] all any = cc
some_passes p q (x ∷ xs) all any =
    let (here, rest) = and_parts (p x) (list_all p xs) all in
    elim (or_cases (q x) (list_any q xs) any) [
      | inl found ↦ (x, here, found)
      | inr later ↦ some_passes p q xs rest later
    ]

pub none_of : {X : Type 0} (p q : X → Bool) → ((x : X) → p x ≡ true → q x ≡ false) → (xs : List X) → list_all p xs ≡ true → list_any q xs ≡ false
none_of p q gives [] all = refl
none_of p q gives (x ∷ xs) all =
    let (here, rest) = and_parts (p x) (list_all p xs) all in
    or_from (q x) (list_any q xs) (gives x here) (none_of p q gives xs rest)

pub all_push : {X : Type 0} (p : X → Bool) (xs : List X) (y : X) → list_all p xs ≡ true → p y ≡ true → list_all p (xs ++ y ∷ []) ≡ true
all_push p xs y all last = list_all-append p xs (y ∷ []) ∙ and_from (list_all p xs) (list_all p (y ∷ [])) all (and_from (p y) true last refl)

pub any_in_front : {X : Type 0} (p : X → Bool) (xs ys : List X) → list_any p xs ≡ true → list_any p (xs ++ ys) ≡ true
any_in_front p xs ys any = list_any-append p xs ys ∙ or_left (list_any p xs) (list_any p ys) any

pub any_behind : {X : Type 0} (p : X → Bool) (xs ys : List X) → list_any p ys ≡ true → list_any p (xs ++ ys) ≡ true
any_behind p xs ys any = list_any-append p xs ys ∙ or_right (list_any p xs) (list_any p ys) any

pub any_last : {X : Type 0} (p : X → Bool) (xs : List X) (y : X) → p y ≡ true → list_any p (xs ++ y ∷ []) ≡ true
any_last p xs y last = any_behind p xs (y ∷ []) (or_left (p y) false last)

-- ## Filters

pub filter_all : {X : Type 0} (p q : X → Bool) (xs : List X) → list_all q xs ≡ true → list_all q (filter p xs) ≡ true
filter_all p q [] all = refl
filter_all p q (x ∷ xs) all =
    let (here, rest) = and_parts (q x) (list_all q xs) all in
    let later : list_all q (filter p xs) ≡ true = filter_all p q xs rest in
    cond_both (p x) (x ∷ filter p xs) (filter p xs) (λ ys. list_all q ys ≡ true) (λ _. and_from (q x) (list_all q (filter p xs)) here later) (λ _. later)

pub filter_none : {X : Type 0} (p q : X → Bool) (xs : List X) → list_any q xs ≡ false → list_any q (filter p xs) ≡ false
filter_none p q [] none = refl
filter_none p q (x ∷ xs) none =
    let (here, rest) = or_parts (q x) (list_any q xs) none in
    let later : list_any q (filter p xs) ≡ false = filter_none p q xs rest in
    cond_both (p x) (x ∷ filter p xs) (filter p xs) (λ ys. list_any q ys ≡ false) (λ _. or_from (q x) (list_any q (filter p xs)) here later) (λ _. later)

pub filter_passes : {X : Type 0} (p : X → Bool) (xs : List X) → list_all p (filter p xs) ≡ true
filter_passes p [] = refl
filter_passes p (x ∷ xs) =
    let later : list_all p (filter p xs) ≡ true = filter_passes p xs in
    cond_both (p x) (x ∷ filter p xs) (filter p xs) (λ ys. list_all p ys ≡ true) (λ here. and_from (p x) (list_all p (filter p xs)) here later) (λ _. later)

-- ## No two alike

pub distinct_parts : {X : Type 0} (like : X → X → Bool) (x : X) (xs : List X) → are_distinct like (x ∷ xs) ≡ true → (list_any (like x) xs ≡ false) × (are_distinct like xs ≡ true)
distinct_parts like x xs distinct =
    let (first, rest) = and_parts (not (list_any (like x) xs)) (are_distinct like xs) distinct in
    (not-true (list_any (like x) xs) first, rest)

pub distinct_more : {X : Type 0} (like : X → X → Bool) (x : X) (xs : List X) → list_any (like x) xs ≡ false → are_distinct like xs ≡ true → are_distinct like (x ∷ xs) ≡ true
distinct_more like x xs none distinct = and_from (not (list_any (like x) xs)) (are_distinct like xs) (not_from_false (list_any (like x) xs) none) distinct

pub distinct_push : {X : Type 0} (like : X → X → Bool) (xs : List X) (y : X) → are_distinct like xs ≡ true → list_any (λ x. like x y) xs ≡ false → are_distinct like (xs ++ y ∷ []) ≡ true
distinct_push like [] y distinct none = refl
distinct_push like (x ∷ xs) y distinct none =
    let (first, rest) = distinct_parts like x xs distinct in
    let (here, later) = or_parts (like x y) (list_any (λ z. like z y) xs) none in
    distinct_more like x (xs ++ y ∷ []) (list_any-append (like x) xs (y ∷ []) ∙ or_from (list_any (like x) xs) (like x y || false) first (or_from (like x y) false here refl)) (distinct_push like xs y rest later)

pub distinct_filter : {X : Type 0} (like : X → X → Bool) (p : X → Bool) (xs : List X) → are_distinct like xs ≡ true → are_distinct like (filter p xs) ≡ true
distinct_filter like p [] distinct = refl
distinct_filter like p (x ∷ xs) distinct =
    let (first, rest) = distinct_parts like x xs distinct in
    let later : are_distinct like (filter p xs) ≡ true = distinct_filter like p xs rest in
    cond_both (p x) (x ∷ filter p xs) (filter p xs) (λ ys. are_distinct like ys ≡ true) (λ _. distinct_more like x (filter p xs) (filter_none p (like x) xs first) later) (λ _. later)

-- no item of the first list is like one of the second
abbrev pub are_apart : {X : Type 0} → (X → X → Bool) → List X → List X → Bool
are_apart like xs ys = list_all (λ x. not (list_any (like x) ys)) xs

pub distinct_append : {X : Type 0} (like : X → X → Bool) (xs ys : List X) → are_distinct like xs ≡ true → are_distinct like ys ≡ true → are_apart like xs ys ≡ true → are_distinct like (xs ++ ys) ≡ true
distinct_append like [] ys distinct others apart = others
distinct_append like (x ∷ xs) ys distinct others apart =
    let (first, rest) = distinct_parts like x xs distinct in
    let (here, later) = and_parts (not (list_any (like x) ys)) (are_apart like xs ys) apart in
    distinct_more like x (xs ++ ys) (list_any-append (like x) xs ys ∙ or_from (list_any (like x) xs) (list_any (like x) ys) first (not-true (list_any (like x) ys) here)) (distinct_append like xs ys rest others later)

apart_more : {X : Type 0} (like : X → X → Bool) (xs : List X) (y : X) (ys : List X) → list_any (λ x. like x y) xs ≡ false → are_apart like xs ys ≡ true → are_apart like xs (y ∷ ys) ≡ true
apart_more like [] y ys none apart = refl
apart_more like (x ∷ xs) y ys none apart =
    let (here, rest) = or_parts (like x y) (list_any (λ z. like z y) xs) none in
    let (first, later) = and_parts (not (list_any (like x) ys)) (are_apart like xs ys) apart in
    and_from (not (like x y || list_any (like x) ys)) (are_apart like xs (y ∷ ys)) (not_from_false (like x y || list_any (like x) ys) (or_from (like x y) (list_any (like x) ys) here (not-true (list_any (like x) ys) first))) (apart_more like xs y ys rest later)

-- two filters that no item passes both
pub filters_apart : {X : Type 0} (like : X → X → Bool) → ((x y : X) → like x y ≡ like y x) → (p q : X → Bool) → ((x : X) → p x ≡ true → q x ≡ false) → (xs : List X) → are_distinct like xs ≡ true → are_apart like (filter p xs) (filter q xs) ≡ true
filters_apart like turned p q disjoint [] distinct = refl
filters_apart {X = X} like turned p q disjoint (x ∷ xs) distinct =
    let (first, rest) = distinct_parts like x xs distinct in
    let later : are_apart like (filter p xs) (filter q xs) ≡ true = filters_apart like turned p q disjoint xs rest in
    let others : list_any (λ z. like z x) xs ≡ false = none_stronger (like x) (λ z. like z x) (λ z is. turned x z ∙ is) xs first in
    cond_both (p x) (x ∷ filter p xs) (filter p xs) (λ zs. are_apart like zs (filter q (x ∷ xs)) ≡ true)
    (λ here. subst (λ (b : Bool). are_apart like (x ∷ filter p xs) (if b then x ∷ filter q xs else filter q xs) ≡ true) (sym (disjoint x here))
    (and_from (not (list_any (like x) (filter q xs))) (are_apart like (filter p xs) (filter q xs)) (not_from_false (list_any (like x) (filter q xs)) (filter_none q (like x) xs first)) later))
    (λ _. cond_both (q x) (x ∷ filter q xs) (filter q xs) (λ zs. are_apart like (filter p xs) zs ≡ true) (λ _. apart_more like (filter p xs) x (filter q xs) (filter_none p (λ z. like z x) xs others) later) (λ _. later))

-- ## What a change of each item keeps

pub any_map : {X Y : Type 0} (p : Y → Bool) (f : X → Y) (xs : List X) → list_any p (map f xs) ≡ list_any (λ x. p (f x)) xs
any_map p f [] = refl
any_map p f (x ∷ xs) = ap (λ b. p (f x) || b) (any_map p f xs)

pub all_map : {X Y : Type 0} (p : Y → Bool) (f : X → Y) (xs : List X) → list_all p (map f xs) ≡ list_all (λ x. p (f x)) xs
all_map p f [] = refl
all_map p f (x ∷ xs) = ap (λ b. p (f x) && b) (all_map p f xs)

pub same_any : {X : Type 0} (p q : X → Bool) → ((x : X) → p x ≡ q x) → (xs : List X) → list_any p xs ≡ list_any q xs
same_any p q is [] = refl
same_any p q is (x ∷ xs) = ap (λ b. b || list_any p xs) (is x) ∙ ap (λ b. q x || b) (same_any p q is xs)

pub same_all : {X : Type 0} (p q : X → Bool) → ((x : X) → p x ≡ q x) → (xs : List X) → list_all p xs ≡ list_all q xs
same_all p q is [] = refl
same_all p q is (x ∷ xs) = ap (λ b. b && list_all p xs) (is x) ∙ ap (λ b. q x && b) (same_all p q is xs)

pub distinct_map : {X : Type 0} (like : X → X → Bool) (f : X → X) → ((x y : X) → like (f x) (f y) ≡ like x y) → (xs : List X) → are_distinct like (map f xs) ≡ are_distinct like xs
distinct_map like f is [] = refl
distinct_map like f is (x ∷ xs) =
    ap (λ b. not b && are_distinct like (map f xs)) (any_map (like (f x)) f xs ∙ same_any (λ y. like (f x) (f y)) (like x) (is x) xs)
    ∙ ap (λ b. not (list_any (like x) xs) && b) (distinct_map like f is xs)

-- each item is in its list
pub each_in : {X : Type 0} (like : X → X → Bool) → ((x : X) → like x x ≡ true) → (xs : List X) → list_all (λ x. list_any (like x) xs) xs ≡ true
each_in like itself [] = refl
each_in like itself (x ∷ xs) =
    and_from (list_any (like x) (x ∷ xs)) (list_all (λ y. list_any (like y) (x ∷ xs)) xs) (or_left (like x x) (list_any (like x) xs) (itself x))
    (all_weaker (λ y. list_any (like y) xs) (λ y. list_any (like y) (x ∷ xs)) (λ y is. or_right (like y x) (list_any (like y) xs) is) xs (each_in like itself xs))

-- ## Counts

abbrev pub one_if : Bool → ℕ
one_if b = if b then 1 else 0

pub count_more : {X : Type 0} (p : X → Bool) (x : X) (xs : List X) → count_by p (x ∷ xs) ≡ one_if (p x) + count_by p xs
count_more p x xs = sym (length-filter p (x ∷ xs)) ∙ on (p x) (length-filter p xs)
  where
    on : (b : Bool) → length (filter p xs) ≡ count_by p xs → length (if b then x ∷ filter p xs else filter p xs) ≡ one_if b + count_by p xs
    on true rest = omega arith
    on false rest = omega arith

pub count_append : {X : Type 0} (p : X → Bool) (xs ys : List X) → count_by p (xs ++ ys) ≡ count_by p xs + count_by p ys
count_append p xs ys = sum_by-append (λ x. one_if (p x)) xs ys

pub count_push : {X : Type 0} (p : X → Bool) (xs : List X) (y : X) → count_by p (xs ++ y ∷ []) ≡ count_by p xs + one_if (p y)
count_push p xs y =
    let one : count_by p (y ∷ []) ≡ one_if (p y) + 0 = count_more p y [] in
    let both : count_by p (xs ++ y ∷ []) ≡ count_by p xs + count_by p (y ∷ []) = count_append p xs (y ∷ []) in
    omega arith

pub count_none : {X : Type 0} (p : X → Bool) (xs : List X) → list_any p xs ≡ false → count_by p xs ≡ 0
count_none p [] none = refl
count_none p (x ∷ xs) none =
    let (here, later) = or_parts (p x) (list_any p xs) none in
    let more : count_by p (x ∷ xs) ≡ one_if (p x) + count_by p xs = count_more p x xs in
    let rest : count_by p xs ≡ 0 = count_none p xs later in
    let first : one_if (p x) ≡ 0 = ap one_if here in
    omega arith

one_of_both : (b : Bool) → one_if b + one_if (not b) ≡ 1
one_of_both true = refl
one_of_both false = refl

pub count_both : {X : Type 0} (p : X → Bool) (xs : List X) → length xs ≡ count_by p xs + count_by (λ x. not (p x)) xs
count_both p [] = refl
count_both p (x ∷ xs) =
    let more : count_by p (x ∷ xs) ≡ one_if (p x) + count_by p xs = count_more p x xs in
    let others : count_by (λ y. not (p y)) (x ∷ xs) ≡ one_if (not (p x)) + count_by (λ y. not (p y)) xs = count_more (λ y. not (p y)) x xs in
    let rest : length xs ≡ count_by p xs + count_by (λ y. not (p y)) xs = count_both p xs in
    let here : one_if (p x) + one_if (not (p x)) ≡ 1 = one_of_both (p x) in
    omega arith
