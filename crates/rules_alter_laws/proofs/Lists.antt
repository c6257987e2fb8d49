-- Lists that have the same items in some order.
use Rattle.std.specs.Prelude.{◌≡◌, ◌⊎◌, ℕ, ◌+◌, ◌≤◌, Bool, true, false, ◌&&◌, not, List, [], ◌∷◌, ◌++◌, filter, take, drop, if◌then◌else◌, refl}
use Rattle.std.specs.List.{list_any, list_all, count_by, insert}
use Rattle.std.proofs.Common.{sym, ◌∙◌, ap, arith, inl, inr}
use Rattle.std.proofs.lemmas.Bool.{true≢false, and_parts, and_from, or_cases, or_parts, or_left, or_right, not_from_true, false_from_ne_true, cases_Bool}
use Rattle.std.proofs.lemmas.List.{take-append-drop}
use Rattle.dd_definitions.specs.Distinct.{are_distinct}
use Rattle.rules_create.proofs.Lists.{one_if, count_more, count_append, distinct_parts, distinct_more}

-- as many of each pass each test
pub record AreAlike {X : Type 0} (xs ys : List X) : Type 0 where
  pub counts : (p : X → Bool) → count_by p xs ≡ count_by p ys

pub alike_itself : {X : Type 0} (xs : List X) → AreAlike xs xs
alike_itself xs = record { counts = λ p. refl }

pub alike_through : {X : Type 0} {xs ys zs : List X} → AreAlike xs ys → AreAlike ys zs → AreAlike xs zs
alike_through one other = record { counts = λ p. one.counts p ∙ other.counts p }

pub alike_turned : {X : Type 0} {xs ys : List X} → AreAlike xs ys → AreAlike ys xs
alike_turned one = record { counts = λ p. sym (one.counts p) }

-- ## Tests and counts

pub one_if_true : (b : Bool) → b ≡ true → one_if b ≡ 1
one_if_true true is = refl
one_if_true false is = cc

pub one_if_false : (b : Bool) → b ≡ false → one_if b ≡ 0
one_if_false true is = cc
one_if_false false is = refl

pub one_at_most : (b : Bool) → one_if b ≤ 1
one_at_most true = omega arith
one_at_most false = omega arith

pub any_counted : {X : Type 0} (p : X → Bool) (xs : List X) → list_any p xs ≡ true → 1 ≤ count_by p xs
any_counted p [] any = cc
any_counted p (x ∷ xs) any =
    let more : count_by p (x ∷ xs) ≡ one_if (p x) + count_by p xs = count_more p x xs in
    elim (or_cases (p x) (list_any p xs) any) [
      | inl here ↦ let one : one_if (p x) ≡ 1 = one_if_true (p x) here in omega arith
      | inr later ↦ let rest : 1 ≤ count_by p xs = any_counted p xs later in omega arith
    ]

pub counted_any : {X : Type 0} (p : X → Bool) (xs : List X) → 1 ≤ count_by p xs → list_any p xs ≡ true
counted_any p [] some = absurd (omega arith)
counted_any p (x ∷ xs) some = elim (cases_Bool (p x)) [
  | inl here ↦ or_left (p x) (list_any p xs) here
  | inr other ↦
      let more : count_by p (x ∷ xs) ≡ one_if (p x) + count_by p xs = count_more p x xs in
      let none : one_if (p x) ≡ 0 = one_if_false (p x) other in
      or_right (p x) (list_any p xs) (counted_any p xs (omega arith))
]

pub none_counted : {X : Type 0} (p : X → Bool) (xs : List X) → count_by p xs ≡ 0 → list_any p xs ≡ false
none_counted p xs none = false_from_ne_true (list_any p xs) (λ any. let some : 1 ≤ count_by p xs = any_counted p xs any in omega arith)

all_uncounted : {X : Type 0} (p : X → Bool) (xs : List X) → list_all p xs ≡ true → count_by (λ x. not (p x)) xs ≡ 0
all_uncounted p [] all = refl
all_uncounted p (x ∷ xs) all =
    let (here, later) = and_parts (p x) (list_all p xs) all in
    let more : count_by (λ y. not (p y)) (x ∷ xs) ≡ one_if (not (p x)) + count_by (λ y. not (p y)) xs = count_more (λ y. not (p y)) x xs in
    let none : one_if (not (p x)) ≡ 0 = one_if_false (not (p x)) (not_from_true (p x) here) in
    let rest : count_by (λ y. not (p y)) xs ≡ 0 = all_uncounted p xs later in
    omega arith

uncounted_all : {X : Type 0} (p : X → Bool) (xs : List X) → count_by (λ x. not (p x)) xs ≡ 0 → list_all p xs ≡ true
uncounted_all p [] none = refl
uncounted_all p (x ∷ xs) none =
    let more : count_by (λ y. not (p y)) (x ∷ xs) ≡ one_if (not (p x)) + count_by (λ y. not (p y)) xs = count_more (λ y. not (p y)) x xs in
    and_from (p x) (list_all p xs) (first (p x) (omega arith)) (uncounted_all p xs (omega arith))
  where
    first : (b : Bool) → one_if (not b) ≡ 0 → b ≡ true
    first true none = refl
    first false none = absurd (omega arith)

pub alike_all : {X : Type 0} (p : X → Bool) (xs ys : List X) → AreAlike xs ys → list_all p xs ≡ true → list_all p ys ≡ true
alike_all p xs ys alike all = uncounted_all p ys (sym (alike.counts (λ x. not (p x))) ∙ all_uncounted p xs all)

pub alike_any : {X : Type 0} (p : X → Bool) (xs ys : List X) → AreAlike xs ys → list_any p xs ≡ true → list_any p ys ≡ true
alike_any p xs ys alike any =
    let some : 1 ≤ count_by p xs = any_counted p xs any in
    let same : count_by p xs ≡ count_by p ys = alike.counts p in
    counted_any p ys (omega arith)

pub alike_none : {X : Type 0} (p : X → Bool) (xs ys : List X) → AreAlike xs ys → list_any p xs ≡ false → list_any p ys ≡ false
alike_none p xs ys alike none = false_from_ne_true (list_any p ys) (λ any. true≢false (sym (alike_any p ys xs (alike_turned alike) any) ∙ none))

-- ## No two alike

-- a test of two items that sorts them into kinds
pub record SortsItems {X : Type 0} (like : X → X → Bool) : Type 0 where
  pub itself : (x : X) → like x x ≡ true
  pub turned : (x y : X) → like x y ≡ like y x
  pub through : (x y z : X) → like x y ≡ true → like x z ≡ true → like y z ≡ true

pub distinct_counts : {X : Type 0} (like : X → X → Bool) → SortsItems like → (xs : List X) → are_distinct like xs ≡ true → (x : X) → count_by (like x) xs ≤ 1
distinct_counts like sorts [] distinct x = omega arith
distinct_counts {X = X} like sorts (y ∷ ys) distinct x =
    let (none, rest) = distinct_parts like y ys distinct in
    let more : count_by (like x) (y ∷ ys) ≡ one_if (like x y) + count_by (like x) ys = count_more (like x) y ys in
    let most : one_if (like x y) ≤ 1 = one_at_most (like x y) in
    let later : count_by (like x) ys ≤ 1 = distinct_counts like sorts ys rest x in
    elim (cases_Bool (like x y)) [
      | inl here ↦
          let others : count_by (like x) ys ≡ 0 = no_other ys none here in
          omega arith
      | inr other ↦ let nothing : one_if (like x y) ≡ 0 = one_if_false (like x y) other in omega arith
    ]
  where
    no_other : (zs : List X) → list_any (like y) zs ≡ false → like x y ≡ true → count_by (like x) zs ≡ 0
    no_other [] none here = refl
    no_other (z ∷ zs) none here =
        let (apart, later) = or_parts (like y z) (list_any (like y) zs) none in
        let more : count_by (like x) (z ∷ zs) ≡ one_if (like x z) + count_by (like x) zs = count_more (like x) z zs in
        let unlike : like x z ≡ false = false_from_ne_true (like x z) (λ is. true≢false (sym (sorts.through x y z here is) ∙ apart)) in
        let nothing : one_if (like x z) ≡ 0 = one_if_false (like x z) unlike in
        let rest : count_by (like x) zs ≡ 0 = no_other zs later here in
        omega arith

pub counts_distinct : {X : Type 0} (like : X → X → Bool) → SortsItems like → (xs : List X) → ((x : X) → count_by (like x) xs ≤ 1) → are_distinct like xs ≡ true
counts_distinct like sorts [] counts = refl
counts_distinct like sorts (y ∷ ys) counts =
    let more : count_by (like y) (y ∷ ys) ≡ one_if (like y y) + count_by (like y) ys = count_more (like y) y ys in
    let own : one_if (like y y) ≡ 1 = one_if_true (like y y) (sorts.itself y) in
    let most : count_by (like y) (y ∷ ys) ≤ 1 = counts y in
    distinct_more like y ys (none_counted (like y) ys (omega arith)) (counts_distinct like sorts ys (λ x.
    let one : count_by (like x) (y ∷ ys) ≡ one_if (like x y) + count_by (like x) ys = count_more (like x) y ys in
    let all : count_by (like x) (y ∷ ys) ≤ 1 = counts x in
    omega arith))

pub alike_distinct : {X : Type 0} (like : X → X → Bool) → SortsItems like → (xs ys : List X) → AreAlike xs ys → are_distinct like xs ≡ true → are_distinct like ys ≡ true
alike_distinct like sorts xs ys alike distinct = counts_distinct like sorts ys (λ x.
    let most : count_by (like x) xs ≤ 1 = distinct_counts like sorts xs distinct x in
    let same : count_by (like x) xs ≡ count_by (like x) ys = alike.counts (like x) in
    omega arith)

-- ## One item put among others

pub put_alike : {X : Type 0} (xs : List X) (place : ℕ) (x : X) → AreAlike (x ∷ xs) (insert xs place x)
put_alike xs place x = record {
  counts = λ p.
      let first : count_by p (x ∷ xs) ≡ one_if (p x) + count_by p xs = count_more p x xs in
      let split : count_by p (take place xs ++ x ∷ drop place xs) ≡ count_by p (take place xs) + count_by p (x ∷ drop place xs) = count_append p (take place xs) (x ∷ drop place xs) in
      let behind : count_by p (x ∷ drop place xs) ≡ one_if (p x) + count_by p (drop place xs) = count_more p x (drop place xs) in
      let whole : count_by p (take place xs ++ drop place xs) ≡ count_by p (take place xs) + count_by p (drop place xs) = count_append p (take place xs) (drop place xs) in
      let same : count_by p (take place xs ++ drop place xs) ≡ count_by p xs = ap (count_by p) (take-append-drop place xs) in
      omega arith;
}

-- ## Filters

pub count_filter : {X : Type 0} (p q : X → Bool) (x : X) (xs : List X) → count_by p (filter q (x ∷ xs)) ≡ one_if (q x && p x) + count_by p (filter q xs)
count_filter p q x xs = on (q x)
  where
    on : (b : Bool) → count_by p (if b then x ∷ filter q xs else filter q xs) ≡ one_if (b && p x) + count_by p (filter q xs)
    on true = count_more p x (filter q xs)
    on false = omega arith

pub fewer_counted : {X : Type 0} (p q : X → Bool) (xs : List X) → count_by p (filter q xs) ≤ count_by p xs
fewer_counted p q [] = omega arith
fewer_counted p q (x ∷ xs) =
    let here : count_by p (filter q (x ∷ xs)) ≡ one_if (q x && p x) + count_by p (filter q xs) = count_filter p q x xs in
    let whole : count_by p (x ∷ xs) ≡ one_if (p x) + count_by p xs = count_more p x xs in
    let rest : count_by p (filter q xs) ≤ count_by p xs = fewer_counted p q xs in
    let less : one_if (q x && p x) ≤ one_if (p x) = both (q x) (p x) in
    omega arith
  where
    both : (b c : Bool) → one_if (b && c) ≤ one_if c
    both true c = omega arith
    both false true = omega arith
    both false false = omega arith

-- an item that passes both tests is found among those that pass one
pub any_in_filter : {X : Type 0} (p q : X → Bool) (xs : List X) → list_any (λ x. q x && p x) xs ≡ true → list_any p (filter q xs) ≡ true
any_in_filter p q [] any = cc
any_in_filter p q (x ∷ xs) any = on (q x) (or_cases (q x && p x) (list_any (λ y. q y && p y) xs) any) (λ later. any_in_filter p q xs later)
  where
    on : (b : Bool) → ((b && p x) ≡ true) ⊎ (list_any (λ y. q y && p y) xs ≡ true) → (list_any (λ y. q y && p y) xs ≡ true → list_any p (filter q xs) ≡ true) → list_any p (if b then x ∷ filter q xs else filter q xs) ≡ true
    on true (inl here) rest = or_left (p x) (list_any p (filter q xs)) here
    on true (inr later) rest = or_right (p x) (list_any p (filter q xs)) (rest later)
    on false (inl here) rest = cc
    on false (inr later) rest = rest later
