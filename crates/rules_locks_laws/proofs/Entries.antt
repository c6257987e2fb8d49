-- The entries of a map that pass a test, in their order.
use Rattle.std.specs.Prelude.{◌≡◌, Bool, true, false, cond, ◌&&◌, T, List, [], ◌∷◌, filter, Option, Some, None, refl}
use Rattle.std.specs.declared.cmp.Ordering.{Ordering}
use Rattle.std.specs.declared.cmp.Ordering.TheVariants.{Less, Equal, Greater}
use Rattle.std.specs.Cmp.{IsTotalOrder}
use Rattle.std.specs.Ordering.{eq_by_cmp, is_lt, is_eq}
use Rattle.std.specs.FinMap as finite_map
use Rattle.std.specs.FinMap.Entries.{below_all, same_entries}
use Rattle.std.proofs.Common.{sym, ◌∙◌, ap, subst}

both : (a b : Bool) → T a → T b → T (a && b)
both true b p q = q
both false b p q = p

first : (a b : Bool) → T (a && b) → T a
first true b p = tt
first false b p = p

second : (a b : Bool) → T (a && b) → T b
second true b p = p
second false b p = absurd p

less_not_equal : (r : Ordering) → T (is_lt r) → is_eq r ≡ false
less_not_equal Less h = refl
less_not_equal Equal h = absurd h
less_not_equal Greater h = absurd h

equal_is : (r : Ordering) → is_eq r ≡ true → r ≡ Equal
equal_is Less e = cc
equal_is Equal e = refl
equal_is Greater e = cc

module _ {K X : Type 0} (R : K → K → Ordering) where
  below_filter : (k : K) (test : K × X → Bool) (es : List (K × X)) → T (below_all R k es) → T (below_all R k (filter test es))
  below_filter k test [] h = tt
  below_filter k test (e ∷ es) h = on (test e) (below_filter k test es (second _ _ h))
    where
      on : (b : Bool) → T (below_all R k (filter test es)) → T (below_all R k (cond b (e ∷ filter test es) (filter test es)))
      on true rest = both (is_lt (R k e.0)) (below_all R k (filter test es)) (first _ _ h) rest
      on false rest = rest

  sorted_filter : (test : K × X → Bool) (es : List (K × X)) → T (finite_map.is_sorted R es) → T (finite_map.is_sorted R (filter test es))
  sorted_filter test [] h = tt
  sorted_filter test (e ∷ es) h = on (test e) (sorted_filter test es (second _ _ h))
    where
      on : (b : Bool) → T (finite_map.is_sorted R (filter test es)) → T (finite_map.is_sorted R (cond b (e ∷ filter test es) (filter test es)))
      on true rest = both (below_all R e.0 (filter test es)) (finite_map.is_sorted R (filter test es)) (below_filter e.0 test es (first _ _ h)) rest
      on false rest = rest

  none_below : (q : K) (es : List (K × X)) → T (below_all R q es) → finite_map.find R q es ≡ None
  none_below q [] h = refl
  none_below q (e ∷ es) h = ap (λ b. cond b (Some e.1) (finite_map.find R q es)) (less_not_equal (R q e.0) (first _ _ h)) ∙ none_below q es (second _ _ h)

  -- what is found under the key, where it passes the test
  abbrev pub if_passes : (K × X → Bool) → K → Option X → Option X
  if_passes test q None = None
  if_passes test q (Some v) = cond (test (q, v)) (Some v) None

  module _ (same : finite_map.IsAntisymmetric R) where
    find_filter : (test : K × X → Bool) (q : K) (es : List (K × X)) → T (finite_map.is_sorted R es) → finite_map.find R q (filter test es) ≡ if_passes test q (finite_map.find R q es)
    find_filter test q [] h = refl
    find_filter test q (e ∷ es) h = on (eq_by_cmp R q e.0) refl (test e) refl (find_filter test q es (second _ _ h))
      where
        on : (t : Bool) → eq_by_cmp R q e.0 ≡ t → (b : Bool) → test e ≡ b → finite_map.find R q (filter test es) ≡ if_passes test q (finite_map.find R q es)
            → finite_map.find R q (cond b (e ∷ filter test es) (filter test es)) ≡ if_passes test q (cond t (Some e.1) (finite_map.find R q es))
        on true ties true passes rest =
            let here : q ≡ e.0 = same q e.0 (equal_is (R q e.0) ties) in
            ap (λ t. cond t (Some e.1) (finite_map.find R q (filter test es))) ties
            ∙ sym (ap (λ (k : K). cond (test (k, e.1)) (Some e.1) None) here ∙ ap (λ b. cond b (Some e.1) None) passes)
        on true ties false passes rest =
            let here : q ≡ e.0 = same q e.0 (equal_is (R q e.0) ties) in
            rest
            ∙ ap (if_passes test q) (none_below q es (subst (λ k. T (below_all R k es)) (sym here) (first _ _ h)))
            ∙ sym (ap (λ (k : K). cond (test (k, e.1)) (Some e.1) None) here ∙ ap (λ b. cond b (Some e.1) None) passes)
        on false ties true passes rest = ap (λ t. cond t (Some e.1) (finite_map.find R q (filter test es))) ties ∙ rest
        on false ties false passes rest = rest

    -- where the same passes at each key, the same entries pass
    pub same_filter : IsTotalOrder R → (test : K × X → Bool) (m n : finite_map.FinMap R X) → ((q : K) → if_passes test q (finite_map.get m q) ≡ if_passes test q (finite_map.get n q))
        → filter test (finite_map.entries m) ≡ filter test (finite_map.entries n)
    same_filter o test m n alike =
        same_entries R o same (filter test (finite_map.entries m)) (filter test (finite_map.entries n))
        (sorted_filter test (finite_map.entries m) (finite_map.entries_sorted m)) (sorted_filter test (finite_map.entries n) (finite_map.entries_sorted n)) (λ q.
        find_filter test q (finite_map.entries m) (finite_map.entries_sorted m) ∙ ap (if_passes test q) (sym (finite_map.get-entries m q))
        ∙ alike q
        ∙ sym (find_filter test q (finite_map.entries n) (finite_map.entries_sorted n) ∙ ap (if_passes test q) (sym (finite_map.get-entries n q))))

    -- under each key what passes there is found among the entries that pass
    pub find_passing : (test : K × X → Bool) (m : finite_map.FinMap R X) (q : K) → finite_map.find R q (filter test (finite_map.entries m)) ≡ if_passes test q (finite_map.get m q)
    find_passing test m q = find_filter test q (finite_map.entries m) (finite_map.entries_sorted m) ∙ ap (if_passes test q) (sym (finite_map.get-entries m q))
