-- The entries that pass are those of the candidates that pass, where each that passes is among these.
use Rattle.std.proofs.Common.{◌≡◌, Bool, true, false, cond, ◌&&◌, ◌||◌, T, List, [], ◌∷◌, Some, None, refl, sym, ◌∙◌, ap}
use Rattle.std.specs.Prelude.{filter}
use Rattle.std.specs.declared.cmp.Ordering.{Ordering}
use Rattle.std.specs.declared.cmp.Ordering.TheVariants.{Less, Equal, Greater}
use Rattle.std.specs.Ordering.{is_eq, is_lt}
use Rattle.std.specs.List.{list_any, AllByRecursion}
use Rattle.std.specs.List.Sorted.{IsStrictlySortedBy}
use Rattle.std.specs.BTreeMap.{is_at}
use Rattle.std.specs.FinMap as finite_map
use Rattle.std.specs.FinMap.Entries.{below_all}
use Rattle.std.proofs.lemmas.Bool.{true≢false}
use Rattle.std.proofs.lemmas.List.Kept.{IsStrictlySortedBy-filter}
use Rattle.std.proofs.lemmas.Map.Views.{any-filter_same}
use Rattle.std.proofs.lemmas.Map.Lookups.{btree_set_from_contains}
use Rattle.dd_names.specs.declared.object_name.ObjName.{ObjName}
use Rattle.dd_catalog.specs.Catalog.{object_cmp}
use Rattle.dd_catalog.proofs.ObjectNames.{object_alone, object_total}
use Rattle.dd_index.specs.Keys.{names_where, passes}

first_so : (a b : Bool) → T (a && b) → T a
first_so true b h = tt
first_so false b h = absurd h

then_so : (a b : Bool) → T (a && b) → T b
then_so true b h = h
then_so false b h = absurd h

less_so : (r : Ordering) → T (is_lt r) → r ≡ Less
less_so Less h = refl
less_so Equal h = absurd h
less_so Greater h = absurd h

module _ {X : Type 0} (test : ObjName → X → Bool) where
  none_found : (q : ObjName) (es : List (ObjName × X)) → T (below_all object_cmp q es) → finite_map.find object_cmp q es ≡ None
  none_found q [] below = refl
  none_found q (e ∷ es) below =
      ap (λ (r : Ordering). cond (is_eq r) (Some e.1) (finite_map.find object_cmp q es)) (less_so (object_cmp q e.0) (first_so (is_lt (object_cmp q e.0)) (below_all object_cmp q es) below))
      ∙ none_found q es (then_so (is_lt (object_cmp q e.0)) (below_all object_cmp q es) below)

  -- an entry is among those that pass if it passes
  among : (q : ObjName) (es : List (ObjName × X)) → T (finite_map.is_sorted object_cmp es) → list_any (is_at (object_cmp q)) (names_where test es) ≡ passes test q (finite_map.find object_cmp q es)
  among q [] sorted = refl
  among q (e ∷ es) sorted = on (object_cmp q e.0) refl (test e.0 e.1) refl (among q es (then_so (below_all object_cmp e.0 es) (finite_map.is_sorted object_cmp es) sorted))
    where
      -- what is to be shown, by the order and the test
      shown : (r : Ordering) → object_cmp q e.0 ≡ r → (b : Bool) → test e.0 e.1 ≡ b
          → list_any (is_at (object_cmp q)) (cond b (e.0 ∷ names_where test es) (names_where test es)) ≡ passes test q (cond (is_eq r) (Some e.1) (finite_map.find object_cmp q es))
          → list_any (is_at (object_cmp q)) (names_where test (e ∷ es)) ≡ passes test q (finite_map.find object_cmp q (e ∷ es))
      shown r order b passed is =
          ap (λ t. list_any (is_at (object_cmp q)) (cond t (e.0 ∷ names_where test es) (names_where test es))) passed ∙ is
          ∙ ap (λ (o : Ordering). passes test q (cond (is_eq o) (Some e.1) (finite_map.find object_cmp q es))) (sym order)

      on : (r : Ordering) → object_cmp q e.0 ≡ r → (b : Bool) → test e.0 e.1 ≡ b → list_any (is_at (object_cmp q)) (names_where test es) ≡ passes test q (finite_map.find object_cmp q es)
          → list_any (is_at (object_cmp q)) (names_where test (e ∷ es)) ≡ passes test q (finite_map.find object_cmp q (e ∷ es))
      on Equal order b passed rest = shown Equal order b passed (here b passed)
        where
          at : q ≡ e.0
          at = object_alone q e.0 order

          none_left : list_any (is_at (object_cmp q)) (names_where test es) ≡ false
          none_left = rest ∙ ap (passes test q) (ap (λ k. finite_map.find object_cmp k es) at ∙ none_found e.0 es (first_so (below_all object_cmp e.0 es) (finite_map.is_sorted object_cmp es) sorted))

          here : (b : Bool) → test e.0 e.1 ≡ b → list_any (is_at (object_cmp q)) (cond b (e.0 ∷ names_where test es) (names_where test es)) ≡ test q e.1
          here true passed = ap (λ (o : Ordering). is_eq o || list_any (is_at (object_cmp q)) (names_where test es)) order ∙ sym (ap (λ k. test k e.1) at ∙ passed)
          here false passed = none_left ∙ sym (ap (λ k. test k e.1) at ∙ passed)
      on Less order true passed rest = shown Less order true passed (ap (λ (o : Ordering). is_eq o || list_any (is_at (object_cmp q)) (names_where test es)) order ∙ rest)
      on Less order false passed rest = shown Less order false passed rest
      on Greater order true passed rest = shown Greater order true passed (ap (λ (o : Ordering). is_eq o || list_any (is_at (object_cmp q)) (names_where test es)) order ∙ rest)
      on Greater order false passed rest = shown Greater order false passed rest

  below_names : (k : ObjName) (es : List (ObjName × X)) → T (below_all object_cmp k es) → AllByRecursion (λ y. object_cmp k y ≡ Less) (names_where test es)
  below_names k [] below = tt
  below_names k (e ∷ es) below = on (test e.0 e.1) (below_names k es (then_so (is_lt (object_cmp k e.0)) (below_all object_cmp k es) below))
    where
      on : (b : Bool) → AllByRecursion (λ y. object_cmp k y ≡ Less) (names_where test es) → AllByRecursion (λ y. object_cmp k y ≡ Less) (cond b (e.0 ∷ names_where test es) (names_where test es))
      on true rest = (less_so (object_cmp k e.0) (first_so (is_lt (object_cmp k e.0)) (below_all object_cmp k es) below), rest)
      on false rest = rest

  -- those that pass rise
  pub names_rise : (es : List (ObjName × X)) → T (finite_map.is_sorted object_cmp es) → IsStrictlySortedBy object_cmp (names_where test es)
  unfolding IsStrictlySortedBy
  names_rise [] sorted = tt
  names_rise (e ∷ es) sorted = on (test e.0 e.1) (names_rise es (then_so (below_all object_cmp e.0 es) (finite_map.is_sorted object_cmp es) sorted))
    where
      on : (b : Bool) → IsStrictlySortedBy object_cmp (names_where test es) → IsStrictlySortedBy object_cmp (cond b (e.0 ∷ names_where test es) (names_where test es))
      on true rest = (below_names e.0 es (first_so (below_all object_cmp e.0 es) (finite_map.is_sorted object_cmp es) sorted), rest)
      on false rest = rest

  all_so : (p x : Bool) → (p ≡ true → x ≡ true) → (p && x) ≡ p
  all_so true x has = has refl
  all_so false x has = refl

  pub found_names : (es : List (ObjName × X)) (ks : List ObjName) → T (finite_map.is_sorted object_cmp es) → IsStrictlySortedBy object_cmp ks
      → ((q : ObjName) → passes test q (finite_map.find object_cmp q es) ≡ true → list_any (is_at (object_cmp q)) ks ≡ true)
      → names_where test es ≡ filter (λ q. passes test q (finite_map.find object_cmp q es)) ks
  found_names es ks sorted rising covers =
      btree_set_from_contains object_total (record { keys = names_where test es }) (record { keys = filter (λ q. passes test q (finite_map.find object_cmp q es)) ks })
      (names_rise es sorted) (IsStrictlySortedBy-filter object_cmp (λ q. passes test q (finite_map.find object_cmp q es)) ks rising) (λ q.
      among q es sorted ∙ sym (any-filter_same (is_at (object_cmp q)) (λ k. passes test k (finite_map.find object_cmp k es)) (passes test q (finite_map.find object_cmp q es)) (λ k tied. alike q k (object_cmp q k) refl tied) ks
      ∙ all_so (passes test q (finite_map.find object_cmp q es)) (list_any (is_at (object_cmp q)) ks) (covers q)))
      object_alone
    where
      alike : (q k : ObjName) (r : Ordering) → object_cmp q k ≡ r → is_at (object_cmp q) k ≡ true → passes test k (finite_map.find object_cmp k es) ≡ passes test q (finite_map.find object_cmp q es)
      alike q k Equal order tied = ap (λ n. passes test n (finite_map.find object_cmp n es)) (sym (object_alone q k order))
      alike q k Less order tied = absurd (true≢false (sym tied ∙ ap (λ (o : Ordering). is_eq o) order))
      alike q k Greater order tied = absurd (true≢false (sym tied ∙ ap (λ (o : Ordering). is_eq o) order))
