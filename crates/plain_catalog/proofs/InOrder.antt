-- Entries in the order of their keys, as the map of them.
use Rattle.std.proofs.Common.{◌≡◌, Bool, true, false, cond, ◌&&◌, T, List, [], ◌∷◌, Some, None, refl, sym, ◌∙◌, ap, subst}
use Rattle.std.specs.Prelude.{IsTrue}
use Rattle.std.specs.declared.cmp.Ordering.{Ordering}
use Rattle.std.specs.declared.cmp.Ordering.TheVariants.{Less}
use Rattle.std.specs.Cmp.{IsTotalOrder, eq_by_cmp_equiv}
use Rattle.std.specs.List.{AllByRecursion}
use Rattle.std.specs.List.Sorted.{IsStrictlySortedBy}
use Rattle.std.specs.Map.{keys_of, lookup}
use Rattle.std.specs.BTreeMap.{is_at}
use Rattle.std.specs.Ordering.{eq_by_cmp, is_lt}
use Rattle.std.specs.FinMap as finite_map
use Rattle.std.specs.FinMap.Entries.{below_all}
use Rattle.std.proofs.lemmas.Map.Keys.{sorted_head, sorted_tail}

pub to_T : (b : Bool) → b ≡ true → T b
to_T true e = tt
to_T false e = absurd cc

pub from_T : (b : Bool) → T b → b ≡ true
from_T true h = refl
from_T false h = absurd h

both : (a b : Bool) → T a → T b → T (a && b)
both true b p q = q
both false b p q = p

module _ {K X : Type 0} (R : K → K → Ordering) where
  below : (k : K) (es : List (K × X)) → AllByRecursion (λ y. R k y ≡ Less) (keys_of es) → T (below_all R k es)
  below k [] h = tt
  below k (e ∷ es) h = both (is_lt (R k e.0)) (below_all R k es) (subst (λ r. T (is_lt r)) (sym h.0) tt) (below k es h.1)

  -- keys that rise are sorted
  pub risen : (es : List (K × X)) → IsStrictlySortedBy R (keys_of es) → T (finite_map.is_sorted R es)
  risen [] h = tt
  risen (e ∷ es) h = both (below_all R e.0 es) (finite_map.is_sorted R es) (below e.0 es (sorted_head R e.0 (keys_of es) h)) (risen es (sorted_tail R e.0 (keys_of es) h))

  pub found : (q : K) (es : List (K × X)) → finite_map.find R q es ≡ lookup (is_at (R q)) es
  found q [] = refl
  found q (e ∷ es) = ap (λ rest. cond (eq_by_cmp R q e.0) (Some e.1) rest) (found q es)

  -- the map has at a key what a search finds there
  pub got : (es : List (K × X)) (q : K) → IsTrue (finite_map.is_sorted R es) → finite_map.get (finite_map.from_sorted {R = R} es) q ≡ lookup (is_at (R q)) es
  got es q sorted = finite_map.get-from_sorted R es q (to_T (finite_map.is_sorted R es) sorted) ∙ found q es

  module _ (o : IsTotalOrder R) (same : finite_map.IsAntisymmetric R) where
    -- entries that have one more, or another at its key
    pub inserted : (es new : List (K × X)) (k : K) (v : X) → IsTrue (finite_map.is_sorted R es) → IsTrue (finite_map.is_sorted R new)
        → ((q : K) → lookup (is_at (R q)) new ≡ cond (is_at (R k) q) (Some v) (lookup (is_at (R q)) es))
        → finite_map.from_sorted {R = R} new ≡ finite_map.insert (finite_map.from_sorted es) k v
    inserted es new k v sorted now_sorted is =
        finite_map.same_map o same (finite_map.from_sorted new) (finite_map.insert (finite_map.from_sorted es) k v) (λ q.
        got new q now_sorted ∙ is q
        ∙ ap (λ b. cond b (Some v) (lookup (is_at (R q)) es)) ((eq_by_cmp_equiv o).symm k q)
        ∙ ap (λ rest. cond (eq_by_cmp R q k) (Some v) rest) (sym (got es q sorted))
        ∙ sym (finite_map.get-insert o (finite_map.from_sorted es) k v q))

    -- entries that lack one key
    pub removed : (es new : List (K × X)) (k : K) → IsTrue (finite_map.is_sorted R es) → IsTrue (finite_map.is_sorted R new)
        → ((q : K) → lookup (is_at (R q)) new ≡ cond (is_at (R k) q) None (lookup (is_at (R q)) es))
        → finite_map.from_sorted {R = R} new ≡ finite_map.remove (finite_map.from_sorted es) k
    removed es new k sorted now_sorted is =
        finite_map.same_map o same (finite_map.from_sorted new) (finite_map.remove (finite_map.from_sorted es) k) (λ q.
        got new q now_sorted ∙ is q
        ∙ ap (λ b. cond b None (lookup (is_at (R q)) es)) ((eq_by_cmp_equiv o).symm k q)
        ∙ ap (λ rest. cond (eq_by_cmp R q k) None rest) (sym (got es q sorted))
        ∙ sym (finite_map.get-remove o (finite_map.from_sorted es) k q))
