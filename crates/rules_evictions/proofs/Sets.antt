-- Values that are added to an ordered set, one after another.
use Rattle.std.specs.Prelude.{◌≡◌, Bool, true, false, ◌||◌, List, [], ◌∷◌, ◌++◌, map, refl}
use Rattle.std.specs.List.{list_any, flat_map}
use Rattle.std.specs.BTreeMap.{is_at}
use Rattle.std.specs.BTreeSet.{insert_key}
use Rattle.std.specs.FinMap as finite_map
use Rattle.std.specs.Ordering.{match_ordering}
use Rattle.std.specs.declared.cmp.Ordering.{Ordering}
use Rattle.std.specs.declared.cmp.Ordering.TheVariants.{Less, Equal, Greater}
use Rattle.std.proofs.Common.{sym, ◌∙◌, ap}
use Rattle.std.proofs.lemmas.List.Folds.{list_any-append}
use Rattle.rules_evictions.specs.Evicted.{with_each}

or_again : (a b : Bool) → (a || b) ≡ (a || (a || b))
or_again true b = refl
or_again false b = refl

or_swap : (a b c : Bool) → (a || (b || c)) ≡ (b || (a || c))
or_swap true true c = refl
or_swap true false c = refl
or_swap false b c = refl

or_turn : (a b c : Bool) → (a || (b || c)) ≡ ((b || a) || c)
or_turn true true c = refl
or_turn true false c = refl
or_turn false true c = refl
or_turn false false c = refl

pub or_none : (a : Bool) → (a || false) ≡ a
or_none true = refl
or_none false = refl

module _ {K : Type 0} (cmp : K → K → Ordering) (alone : finite_map.IsAntisymmetric cmp) (q : K) where
  has_more : (all : List K) (x : K) → list_any (is_at (cmp q)) (insert_key cmp all x) ≡ (is_at (cmp q) x || list_any (is_at (cmp q)) all)
  has_more [] x = refl
  has_more (y ∷ ys) x = on (cmp x y) refl (has_more ys x)
    where
      on : (o : Ordering) → cmp x y ≡ o → list_any (is_at (cmp q)) (insert_key cmp ys x) ≡ (is_at (cmp q) x || list_any (is_at (cmp q)) ys)
          → list_any (is_at (cmp q)) (match_ordering o (x ∷ y ∷ ys) (y ∷ ys) (y ∷ insert_key cmp ys x)) ≡ (is_at (cmp q) x || (is_at (cmp q) y || list_any (is_at (cmp q)) ys))
      on Less is later = refl
      on Equal is later = or_again (is_at (cmp q) y) (list_any (is_at (cmp q)) ys) ∙ ap (λ k. is_at (cmp q) k || (is_at (cmp q) y || list_any (is_at (cmp q)) ys)) (sym (alone x y is))
      on Greater is later = ap (λ b. is_at (cmp q) y || b) later ∙ or_swap (is_at (cmp q) y) (is_at (cmp q) x) (list_any (is_at (cmp q)) ys)

  pub has_each : (all xs : List K) → list_any (is_at (cmp q)) (with_each cmp all xs) ≡ (list_any (is_at (cmp q)) xs || list_any (is_at (cmp q)) all)
  has_each all [] = refl
  has_each all (x ∷ xs) =
      has_each (insert_key cmp all x) xs ∙ ap (λ b. list_any (is_at (cmp q)) xs || b) (has_more all x)
      ∙ or_turn (list_any (is_at (cmp q)) xs) (is_at (cmp q) x) (list_any (is_at (cmp q)) all)

pub each_append : {K : Type 0} (cmp : K → K → Ordering) (all xs ys : List K) → with_each cmp all (xs ++ ys) ≡ with_each cmp (with_each cmp all xs) ys
each_append cmp all [] ys = refl
each_append cmp all (x ∷ xs) ys = each_append cmp (insert_key cmp all x) xs ys

-- one of the values that come of the items passes, where one of the items does
pub any_flat : {A B : Type 0} (p : B → Bool) (f : A → List B) (test : A → Bool) → ((x : A) → test x ≡ list_any p (f x)) → (xs : List A) → list_any test xs ≡ list_any p (flat_map f xs)
any_flat p f test same [] = refl
any_flat p f test same (x ∷ xs) = (λ i. same x i || any_flat p f test same xs i) ∙ sym (list_any-append p (f x) (flat_map f xs))

pub any_map : {A B : Type 0} (p : B → Bool) (f : A → B) (xs : List A) → list_any p (map f xs) ≡ list_any (λ x. p (f x)) xs
any_map p f [] = refl
any_map p f (x ∷ xs) = ap (λ b. p (f x) || b) (any_map p f xs)

pub any_same : {A : Type 0} (p test : A → Bool) → ((x : A) → p x ≡ test x) → (xs : List A) → list_any p xs ≡ list_any test xs
any_same p test same [] = refl
any_same p test same (x ∷ xs) = λ i. same x i || any_same p test same xs i
