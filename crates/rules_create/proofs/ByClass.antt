-- The indexes by their class: none is lost, none comes twice, and the ranks never fall.
use Rattle.std.specs.Prelude.{◌≡◌, ℕ, zero, suc, ◌+◌, ◌≤◌, ◌==◌, Bool, true, false, not, nat_le, List, [], ◌∷◌, ◌++◌, filter, length, if◌then◌else◌, refl}
use Rattle.std.specs.List.{list_any, list_all, count_by}
use Rattle.std.proofs.Common.{sym, ◌∙◌, ap, subst, arith, inl, inr}
use Rattle.std.proofs.lemmas.Bool.{true≢false, and_parts, and_from, or_cases, or_left, or_right, not_from_false, eqb-true, eq-eqb}
use Rattle.std.proofs.lemmas.Bool.Decides.{nat_tests}
use Rattle.std.proofs.lemmas.List.{append_assoc, append-nil}
use Rattle.std.proofs.lemmas.List.Folds.{list_all-append}
use Rattle.std.proofs.lemmas.List.Sums.{length-filter}
use Rattle.sql_types.specs.declared.choices.IndexClass.{IndexClass}
use Rattle.sql_types.specs.declared.choices.IndexClass.TheVariants as classes
use Rattle.dd_definitions.specs.Distinct.{are_distinct}
use Rattle.dd_definitions.specs.Indexes.{is_primary_class, is_primary, is_secondary, is_same_index, is_primary_first, has_nullable, class_rank, rank, are_ranked_from}
use Rattle.dd_definitions.specs.declared.columns.ColumnDef.{ColumnDef}
use Rattle.dd_definitions.specs.declared.indexes.IndexDef.{IndexDef}
use Rattle.rules_create.specs.Tables.{is_ranked, by_class}
use Rattle.rules_create.proofs.Lists.{all_weaker, any_in_front, any_behind, filter_all, filter_passes, distinct_filter, are_apart, distinct_append, filters_apart, one_if, count_more, count_append}
use Rattle.rules_create.proofs.Names.{same_turned}

abbrev of_rank : List ColumnDef → ℕ → List IndexDef → List IndexDef
of_rank columns n indexes = filter (is_ranked columns n) indexes

-- ## Ranks

class_rank_most : (class : IndexClass) (nullable : Bool) → class_rank class nullable ≤ 3
class_rank_most classes.Primary nullable = omega arith
class_rank_most classes.Unique true = omega arith
class_rank_most classes.Unique false = omega arith
class_rank_most classes.Plain nullable = omega arith

rank_most : (columns : List ColumnDef) (index : IndexDef) → rank columns index ≤ 3
unfolding rank
rank_most columns index = class_rank_most index.class (has_nullable columns index)

class_first : (class : IndexClass) (nullable : Bool) → (class_rank class nullable == 0) ≡ true → is_primary_class class ≡ true
class_first classes.Primary nullable is = refl
class_first classes.Unique true is = cc
class_first classes.Unique false is = cc
class_first classes.Plain nullable is = cc

first_is_primary : (columns : List ColumnDef) (index : IndexDef) → is_ranked columns 0 index ≡ true → is_primary index ≡ true
unfolding rank
first_is_primary columns index is = class_first index.class (has_nullable columns index) is

class_later : (n : ℕ) (class : IndexClass) (nullable : Bool) → (class_rank class nullable == suc n) ≡ true → is_primary_class class ≡ false
class_later n classes.Primary nullable is = let e : 0 ≡ suc n = eqb-true 0 (suc n) is in absurd (omega arith)
class_later n classes.Unique nullable is = refl
class_later n classes.Plain nullable is = refl

later_is_secondary : (columns : List ColumnDef) (n : ℕ) (index : IndexDef) → is_ranked columns (suc n) index ≡ true → is_secondary index ≡ true
unfolding rank
later_is_secondary columns n index is = not_from_false (is_primary index) (class_later n index.class (has_nullable columns index) is)

two_ranks : (r m n : ℕ) → (m == n) ≡ false → (r == m) ≡ true → (r == n) ≡ false
two_ranks r m n apart is = subst (λ x. (x == n) ≡ false) (sym (eqb-true r m is)) apart

-- ## None is lost

pub by_class_all : (p : IndexDef → Bool) (columns : List ColumnDef) (indexes : List IndexDef) → list_all p indexes ≡ true → list_all p (by_class columns indexes) ≡ true
unfolding by_class
by_class_all p columns indexes all =
    let part : (n : ℕ) → list_all p (of_rank columns n indexes) ≡ true = λ n. filter_all (is_ranked columns n) p indexes all in
    let joined : (xs ys : List IndexDef) → list_all p xs ≡ true → list_all p ys ≡ true → list_all p (xs ++ ys) ≡ true = λ xs ys a b. list_all-append p xs ys ∙ and_from (list_all p xs) (list_all p ys) a b in
    joined (of_rank columns 0 indexes ++ of_rank columns 1 indexes ++ of_rank columns 2 indexes) (of_rank columns 3 indexes)
    (joined (of_rank columns 0 indexes ++ of_rank columns 1 indexes) (of_rank columns 2 indexes) (joined (of_rank columns 0 indexes) (of_rank columns 1 indexes) (part 0) (part 1)) (part 2)) (part 3)

any_kept : (p : IndexDef → Bool) (columns : List ColumnDef) (indexes : List IndexDef) → list_any p indexes ≡ true → (n : ℕ) × (n ≤ 3) × (list_any p (of_rank columns n indexes) ≡ true)
any_kept p columns [] any = cc
any_kept p columns (i ∷ is) any = elim (or_cases (p i) (list_any p is) any) [
  | inl here ↦ (
    rank columns i,
    rank_most columns i,
    subst (λ (b : Bool). list_any p (if b then i ∷ of_rank columns (rank columns i) is else of_rank columns (rank columns i) is) ≡ true) (sym (eq-eqb (rank columns i) (rank columns i) refl)) (or_left (p i) (list_any p (of_rank columns (rank columns i) is)) here),
  )
  | inr later ↦ let found = any_kept p columns is later in (found.0, found.1, on found.0 (rank columns i == found.0) found.2)
]
  where
    on : (n : ℕ) (b : Bool) → list_any p (of_rank columns n is) ≡ true → list_any p (if b then i ∷ of_rank columns n is else of_rank columns n is) ≡ true
    on n true rest = or_right (p i) (list_any p (of_rank columns n is)) rest
    on n false rest = rest

pub by_class_any : (p : IndexDef → Bool) (columns : List ColumnDef) (indexes : List IndexDef) → list_any p indexes ≡ true → list_any p (by_class columns indexes) ≡ true
unfolding by_class
by_class_any p columns indexes any = let found = any_kept p columns indexes any in at found.0 found.1 found.2
  where
    at : (n : ℕ) → n ≤ 3 → list_any p (of_rank columns n indexes) ≡ true → list_any p (of_rank columns 0 indexes ++ of_rank columns 1 indexes ++ of_rank columns 2 indexes ++ of_rank columns 3 indexes) ≡ true
    at zero most is = any_in_front p (of_rank columns 0 indexes ++ of_rank columns 1 indexes ++ of_rank columns 2 indexes) (of_rank columns 3 indexes)
        (any_in_front p (of_rank columns 0 indexes ++ of_rank columns 1 indexes) (of_rank columns 2 indexes) (any_in_front p (of_rank columns 0 indexes) (of_rank columns 1 indexes) is))
    at (suc zero) most is = any_in_front p (of_rank columns 0 indexes ++ of_rank columns 1 indexes ++ of_rank columns 2 indexes) (of_rank columns 3 indexes)
        (any_in_front p (of_rank columns 0 indexes ++ of_rank columns 1 indexes) (of_rank columns 2 indexes) (any_behind p (of_rank columns 0 indexes) (of_rank columns 1 indexes) is))
    at (suc (suc zero)) most is = any_in_front p (of_rank columns 0 indexes ++ of_rank columns 1 indexes ++ of_rank columns 2 indexes) (of_rank columns 3 indexes)
        (any_behind p (of_rank columns 0 indexes ++ of_rank columns 1 indexes) (of_rank columns 2 indexes) is)
    at (suc (suc (suc zero))) most is = any_behind p (of_rank columns 0 indexes ++ of_rank columns 1 indexes ++ of_rank columns 2 indexes) (of_rank columns 3 indexes) is
    at (suc (suc (suc (suc n)))) most is = absurd (omega arith)

-- ## None comes twice

pub by_class_distinct : (columns : List ColumnDef) (indexes : List IndexDef) → are_distinct is_same_index indexes ≡ true → are_distinct is_same_index (by_class columns indexes) ≡ true
unfolding by_class
by_class_distinct columns indexes distinct =
    let part : (n : ℕ) → are_distinct is_same_index (of_rank columns n indexes) ≡ true = λ n. distinct_filter is_same_index (is_ranked columns n) indexes distinct in
    let apart : (m n : ℕ) → (m == n) ≡ false → are_apart is_same_index (of_rank columns m indexes) (of_rank columns n indexes) ≡ true =
    λ m n other. filters_apart is_same_index (λ a b. same_turned a.name b.name) (is_ranked columns m) (is_ranked columns n) (λ i is. two_ranks (rank columns i) m n other is) indexes distinct in
    let both : (xs ys zs : List IndexDef) → are_apart is_same_index xs zs ≡ true → are_apart is_same_index ys zs ≡ true → are_apart is_same_index (xs ++ ys) zs ≡ true =
    λ xs ys zs a b. list_all-append (λ x. not (list_any (is_same_index x) zs)) xs ys ∙ and_from (are_apart is_same_index xs zs) (are_apart is_same_index ys zs) a b in
    let two = distinct_append is_same_index (of_rank columns 0 indexes) (of_rank columns 1 indexes) (part 0) (part 1) (apart 0 1 refl) in
    let three = distinct_append is_same_index (of_rank columns 0 indexes ++ of_rank columns 1 indexes) (of_rank columns 2 indexes) two (part 2) (both (of_rank columns 0 indexes) (of_rank columns 1 indexes) (of_rank columns 2 indexes) (apart 0 2 refl) (apart 1 2 refl)) in
    distinct_append is_same_index (of_rank columns 0 indexes ++ of_rank columns 1 indexes ++ of_rank columns 2 indexes) (of_rank columns 3 indexes) three (part 3)
    (both (of_rank columns 0 indexes ++ of_rank columns 1 indexes) (of_rank columns 2 indexes) (of_rank columns 3 indexes) (both (of_rank columns 0 indexes) (of_rank columns 1 indexes) (of_rank columns 3 indexes) (apart 0 3 refl) (apart 1 3 refl)) (apart 2 3 refl))

-- one index adds to one of the four counts
once : (r w : ℕ) → (if r == 0 then w else 0) + (if r == 1 then w else 0) + (if r == 2 then w else 0) + (if r == 3 then w else 0) ≤ w
once r w = grind (arith, nat_tests)

count_of_rank : (p : IndexDef → Bool) (columns : List ColumnDef) (n : ℕ) (i : IndexDef) (is : List IndexDef) → count_by p (of_rank columns n (i ∷ is)) ≡ (if rank columns i == n then one_if (p i) else 0) + count_by p (of_rank columns n is)
count_of_rank p columns n i is = on (rank columns i == n)
  where
    on : (b : Bool) → count_by p (if b then i ∷ of_rank columns n is else of_rank columns n is) ≡ (if b then one_if (p i) else 0) + count_by p (of_rank columns n is)
    on true = count_more p i (of_rank columns n is)
    on false = omega arith

counts : (p : IndexDef → Bool) (columns : List ColumnDef) (indexes : List IndexDef)
    → count_by p (of_rank columns 0 indexes) + count_by p (of_rank columns 1 indexes) + count_by p (of_rank columns 2 indexes) + count_by p (of_rank columns 3 indexes) ≤ count_by p indexes
counts p columns [] = omega arith
counts p columns (i ∷ is) =
    let whole : count_by p (i ∷ is) ≡ one_if (p i) + count_by p is = count_more p i is in
    let c0 = count_of_rank p columns 0 i is in
    let c1 = count_of_rank p columns 1 i is in
    let c2 = count_of_rank p columns 2 i is in
    let c3 = count_of_rank p columns 3 i is in
    let one = once (rank columns i) (one_if (p i)) in
    let rest = counts p columns is in
    omega arith

pub by_class_count : (p : IndexDef → Bool) (columns : List ColumnDef) (indexes : List IndexDef) → count_by p (by_class columns indexes) ≤ count_by p indexes
unfolding by_class
by_class_count p columns indexes =
    let c1 = count_append p (of_rank columns 0 indexes) (of_rank columns 1 indexes) in
    let c2 = count_append p (of_rank columns 0 indexes ++ of_rank columns 1 indexes) (of_rank columns 2 indexes) in
    let c3 = count_append p (of_rank columns 0 indexes ++ of_rank columns 1 indexes ++ of_rank columns 2 indexes) (of_rank columns 3 indexes) in
    let all = counts p columns indexes in
    omega arith

-- ## Their order

regrouped : (a b c d : List IndexDef) → a ++ b ++ c ++ d ≡ a ++ (b ++ (c ++ (d ++ [])))
regrouped a b c d = append_assoc (a ++ b) c d ∙ append_assoc a b (c ++ d) ∙ ap (λ (rest : List IndexDef). a ++ (b ++ (c ++ rest))) (sym (append-nil d))

lower : (columns : List ColumnDef) (least n : ℕ) (indexes : List IndexDef) → nat_le least n ≡ true → are_ranked_from columns n indexes ≡ true → are_ranked_from columns least indexes ≡ true
lower columns least n [] most ranked = refl
lower columns least n (i ∷ is) most ranked =
    let (here, rest) = and_parts (nat_le n (rank columns i)) (are_ranked_from columns (rank columns i) is) ranked in
    and_from (nat_le least (rank columns i)) (are_ranked_from columns (rank columns i) is) (through least n (rank columns i) most here) rest
  where
    through : (a b c : ℕ) → nat_le a b ≡ true → nat_le b c ≡ true → nat_le a c ≡ true
    through a b c one other = grind (arith, nat_tests)

ranked_in_front : (columns : List ColumnDef) (least n : ℕ) (front rest : List IndexDef) → nat_le least n ≡ true → list_all (is_ranked columns n) front ≡ true → are_ranked_from columns n rest ≡ true → are_ranked_from columns least (front ++ rest) ≡ true
ranked_in_front columns least n [] rest most all ranked = lower columns least n rest most ranked
ranked_in_front columns least n (i ∷ is) rest most all ranked =
    let (here, later) = and_parts (rank columns i == n) (list_all (is_ranked columns n) is) all in
    let e : rank columns i ≡ n = eqb-true (rank columns i) n here in
    and_from (nat_le least (rank columns i)) (are_ranked_from columns (rank columns i) (is ++ rest)) (ap (nat_le least) e ∙ most)
    (ranked_in_front columns (rank columns i) n is rest (grind (arith, nat_tests)) later ranked)

pub by_class_ranked : (columns : List ColumnDef) (indexes : List IndexDef) → are_ranked_from columns 0 (by_class columns indexes) ≡ true
unfolding by_class
by_class_ranked columns indexes =
    let part : (n : ℕ) → list_all (is_ranked columns n) (of_rank columns n indexes) ≡ true = λ n. filter_passes (is_ranked columns n) indexes in
    ap (are_ranked_from columns 0) (regrouped (of_rank columns 0 indexes) (of_rank columns 1 indexes) (of_rank columns 2 indexes) (of_rank columns 3 indexes))
    ∙ ranked_in_front columns 0 0 (of_rank columns 0 indexes) _ refl (part 0)
    (ranked_in_front columns 0 1 (of_rank columns 1 indexes) _ refl (part 1)
    (ranked_in_front columns 1 2 (of_rank columns 2 indexes) _ refl (part 2) (ranked_in_front columns 2 3 (of_rank columns 3 indexes) [] refl (part 3) refl)))

count_weaker : (p q : IndexDef → Bool) → ((i : IndexDef) → p i ≡ true → q i ≡ true) → (indexes : List IndexDef) → count_by p indexes ≤ count_by q indexes
count_weaker p q gives [] = omega arith
count_weaker p q gives (i ∷ is) =
    let first : count_by p (i ∷ is) ≡ one_if (p i) + count_by p is = count_more p i is in
    let other : count_by q (i ∷ is) ≡ one_if (q i) + count_by q is = count_more q i is in
    let here : one_if (p i) ≤ one_if (q i) = on (p i) (q i) (gives i) in
    let rest : count_by p is ≤ count_by q is = count_weaker p q gives is in
    omega arith
  where
    on : (b c : Bool) → (b ≡ true → c ≡ true) → one_if b ≤ one_if c
    on true true gives = omega arith
    on true false gives = absurd (true≢false (sym (gives refl)))
    on false c gives = omega arith

at_most_first : (front rest : List IndexDef) → length front ≤ 1 → list_all is_secondary rest ≡ true → is_primary_first (front ++ rest) ≡ true
unfolding is_primary_first
at_most_first [] [] most all = refl
at_most_first [] (i ∷ is) most all = (and_parts (is_secondary i) (list_all is_secondary is) all).1
at_most_first (i ∷ []) rest most all = all
at_most_first (i ∷ j ∷ is) rest most all = absurd (omega arith)

pub by_class_primary : (columns : List ColumnDef) (indexes : List IndexDef) → count_by is_primary indexes ≤ 1 → is_primary_first (by_class columns indexes) ≡ true
unfolding by_class
by_class_primary columns indexes single =
    let counted : length (of_rank columns 0 indexes) ≡ count_by (is_ranked columns 0) indexes = length-filter (is_ranked columns 0) indexes in
    let fewer : count_by (is_ranked columns 0) indexes ≤ count_by is_primary indexes = count_weaker (is_ranked columns 0) is_primary (first_is_primary columns) indexes in
    let part : (n : ℕ) → list_all is_secondary (of_rank columns (suc n) indexes) ≡ true = λ n. all_weaker (is_ranked columns (suc n)) is_secondary (later_is_secondary columns n) (of_rank columns (suc n) indexes) (filter_passes (is_ranked columns (suc n)) indexes) in
    let joined : (xs ys : List IndexDef) → list_all is_secondary xs ≡ true → list_all is_secondary ys ≡ true → list_all is_secondary (xs ++ ys) ≡ true = λ xs ys a b. list_all-append is_secondary xs ys ∙ and_from (list_all is_secondary xs) (list_all is_secondary ys) a b in
    ap is_primary_first (regrouped (of_rank columns 0 indexes) (of_rank columns 1 indexes) (of_rank columns 2 indexes) (of_rank columns 3 indexes))
    ∙ at_most_first (of_rank columns 0 indexes) _ (omega arith) (joined (of_rank columns 1 indexes) _ (part 0) (joined (of_rank columns 2 indexes) _ (part 1) (joined (of_rank columns 3 indexes) [] (part 2) refl)))
