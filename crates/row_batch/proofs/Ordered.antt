-- The order of operations, and that there is one arrangement alone.
use Rattle.std.proofs.Common.{◌≡◌, ℕ, suc, ◌+◌, ◌<◌, Ordering, Less, Equal, Greater, Bool, true, false, cond, not, ◌&&◌, List, [], ◌∷◌, length, get_or, Result, Ok, Err, refl, sym, ap, ◌∙◌, arith}
use Rattle.std.specs.Prelude.{OnOk}
use Rattle.std.specs.List.{filter}
use Rattle.std.specs.List.Sorted.{ties, IsSortedBy, IsStableBy, IsPermutation}
use Rattle.std.specs.Ordering.{is_lt, ordering_reverse}
use Rattle.std.specs.Cmp.{IsTotalOrder, IsStrictWeakOrder, nat_cmp_total, on_total, then_total}
use Rattle.std.specs.Cmp.Lexicographic.{nat_list_cmp_total}
use Rattle.std.proofs.lemmas.Cmp.{tied_itself, alike_right}
use Rattle.std.proofs.lemmas.List.Sorted.{ranks_by, IsPermutation-refl}
use Rattle.row_batch.specs.declared.operation.Operation.{Operation}
use Rattle.row_batch.specs.Order.{rank, key_of, operation_cmp, comes_before, may_precede, in_order, IsArranged}

pub operations_total : IsTotalOrder operation_cmp
operations_total = then_total (on_total rank nat_cmp_total) (on_total key_of nat_list_cmp_total)

pub operations_ranked : IsStrictWeakOrder comes_before
operations_ranked = ranks_by operations_total (λ (x : Operation). x)

pub both : (a b : Bool) → a ≡ true → b ≡ true → (a && b) ≡ true
both true b p q = q
both false b p q = absurd cc

pub first : (a b : Bool) → (a && b) ≡ true → a ≡ true
first true b e = refl
first false b e = absurd cc

pub second : (a b : Bool) → (a && b) ≡ true → b ≡ true
second true b e = e
second false b e = absurd cc

less : (o : Ordering) → is_lt o ≡ true → o ≡ Less
less Less e = refl
less Equal e = absurd cc
less Greater e = absurd cc

-- what is before one is before all that don't come before that
pub then_before : (x y z : Operation) → comes_before x y ≡ true → not (comes_before z y) ≡ true → comes_before x z ≡ true
then_before x y z xy zy = at (operation_cmp y z) refl
  where
    at : (o : Ordering) → operation_cmp y z ≡ o → comes_before x z ≡ true
    at Less e = ap is_lt (operations_total.trans x y z (less (operation_cmp x y) xy) e)
    at Equal e = ap is_lt (sym (alike_right operations_total y z x e) ∙ less (operation_cmp x y) xy)
    at Greater e =
        let back : operation_cmp z y ≡ Less = operations_total.antisymm z y ∙ ap ordering_reverse e in
        let before : comes_before z y ≡ true = ap is_lt back in
        absurd cc

not_itself : (x : Operation) → comes_before x x ≡ false
not_itself x = ap is_lt (tied_itself operations_total x)

ties_itself : (x : Operation) → ties comes_before x x ≡ true
ties_itself x = rw (not_itself x) refl

-- what comes before all of a list ties with none of it
none_ties : (x y : Operation) (ys : List Operation) → comes_before x y ≡ true → in_order (y ∷ ys) ≡ true → filter (ties comes_before x) (y ∷ ys) ≡ []
none_ties x y [] h order = rw h refl
none_ties x y (z ∷ zs) h order =
    let next = none_ties x z zs (then_before x y z h (first (may_precede y (z ∷ zs)) (in_order (z ∷ zs)) order)) (second (may_precede y (z ∷ zs)) (in_order (z ∷ zs)) order) in
    rw h next

abbrev Alike : List Operation → List Operation → Type 0
Alike xs ys = (x : Operation) → filter (ties comes_before x) xs ≡ filter (ties comes_before x) ys

some_first : (x : Operation) (xs : List Operation) → filter (ties comes_before x) (x ∷ xs) ≡ x ∷ filter (ties comes_before x) xs
some_first x xs = rw (ties_itself x) refl

never : (x : Operation) (xs : List Operation) → x ∷ xs ≡ [] → ⊥
never x xs e = cc

head_is : (x y : Operation) (xs ys : List Operation) → x ∷ xs ≡ y ∷ ys → x ≡ y
head_is x y xs ys e = cc

without : (b : Bool) (x : Operation) (xs ys : List Operation) → cond b (x ∷ xs) xs ≡ cond b (x ∷ ys) ys → xs ≡ ys
without true x xs ys e = cc
without false x xs ys e = e

by_heads : (x y : Operation) (xs ys : List Operation) → in_order (x ∷ xs) ≡ true → in_order (y ∷ ys) ≡ true → Alike (x ∷ xs) (y ∷ ys)
    → (a b : Bool) → comes_before x y ≡ a → comes_before y x ≡ b → (Alike xs ys → xs ≡ ys) → x ∷ xs ≡ y ∷ ys
by_heads x y xs ys p q same true b h k rest = absurd (never x (filter (ties comes_before x) xs) (sym (some_first x xs) ∙ same x ∙ none_ties x y ys h q))
by_heads x y xs ys p q same false true h k rest = absurd (never y (filter (ties comes_before y) ys) (sym (some_first y ys) ∙ sym (same y) ∙ none_ties y x xs k p))
by_heads x y xs ys p q same false false h k rest =
    let tied : ties comes_before x y ≡ true = rw (h, k) refl in
    let heads : x ∷ filter (ties comes_before x) xs ≡ y ∷ filter (ties comes_before x) ys = sym (some_first x xs) ∙ same x ∙ rw tied refl in
    let one : x ≡ y = head_is x y (filter (ties comes_before x) xs) (filter (ties comes_before x) ys) heads in
    let others : xs ≡ ys = rest (λ z. without (ties comes_before z x) x (filter (ties comes_before z) xs) (filter (ties comes_before z) ys) (same z ∙ ap (λ (w : Operation). cond (ties comes_before z w) (w ∷ filter (ties comes_before z) ys) (filter (ties comes_before z) ys)) (sym one))) in
    ap (λ (w : Operation). w ∷ xs) one ∙ ap (λ (l : List Operation). y ∷ l) others

-- two lists in order, of which those that tie with each operation are the same, are one
pub one_order : (xs ys : List Operation) → in_order xs ≡ true → in_order ys ≡ true → Alike xs ys → xs ≡ ys
one_order [] [] p q same = refl
one_order [] (y ∷ ys) p q same = absurd (never y (filter (ties comes_before y) ys) (sym (some_first y ys) ∙ sym (same y)))
one_order (x ∷ xs) [] p q same = absurd (never x (filter (ties comes_before x) xs) (sym (some_first x xs) ∙ same x))
one_order (x ∷ xs) (y ∷ ys) p q same =
    by_heads x y xs ys p q same (comes_before x y) (comes_before y x) refl refl (one_order xs ys (second (may_precede x xs) (in_order xs) p) (second (may_precede y ys) (in_order ys) q))

-- there is one arrangement alone
pub one_arrangement : (came xs ys : List Operation) → IsArranged came xs → IsArranged came ys → xs ≡ ys
one_arrangement came xs ys p q = one_order xs ys p.order q.order (λ x. p.ties x ∙ sym (q.ties x))

-- what a sort leaves is in order
pub sorted_in_order : (xs : List Operation) → IsSortedBy comes_before xs → in_order xs ≡ true
sorted_in_order [] h = refl
sorted_in_order (x ∷ []) h = refl
sorted_in_order (x ∷ y ∷ ys) h =
    let here : comes_before y x ≡ false = h 0 x (omega arith) (omega arith) in
    both (not (comes_before y x)) (in_order (y ∷ ys)) (rw here refl) (sorted_in_order (y ∷ ys) (λ k d low high. step k d (omega arith)))
  where
    step : (k : ℕ) (d : Operation) → k + 1 < length (y ∷ ys) → comes_before (get_or (y ∷ ys) (k + 1) d) (get_or (y ∷ ys) k d) ≡ false
    step k d high = let e : k + 1 ≡ suc k = omega arith in let f : suc k + 1 ≡ suc (suc k) = omega arith in let g : comes_before (get_or (x ∷ y ∷ ys) (suc k + 1) d) (get_or (x ∷ y ∷ ys) (suc k) d) ≡ false = h (suc k) d (omega arith) (omega arith) in rw e (rw f at g)

pub arranged_ok : {T E : Type 0} (r : Result T E) (came xs : List Operation) → IsPermutation came xs → OnOk r (IsSortedBy comes_before xs) → IsStableBy comes_before came xs → OnOk r (IsArranged came xs)
arranged_ok (Ok x) came xs same sorted ties = record { same = same; order = sorted_in_order xs sorted; ties = ties }
arranged_ok (Err e) came xs same sorted ties = tt

-- operations that are in order stay as they are
pub stays_in_order : (came xs : List Operation) → IsArranged came xs → in_order came ≡ true → xs ≡ came
stays_in_order came xs arranged order = one_arrangement came xs came arranged (record { same = IsPermutation-refl came; order = order; ties = λ x. refl })
