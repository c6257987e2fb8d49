-- What maps have behind what goes and what comes.
use Rattle.std.proofs.Common.{◌≡◌, ◌⊎◌, inl, inr, Bool, true, false, cond, List, [], ◌∷◌, Option, Some, None, refl, sym, ap, ◌∙◌}
use Rattle.std.specs.Option.{option_map}
use Rattle.std.specs.Ordering.{eq_by_cmp, is_eq}
use Rattle.std.specs.Cmp.{IsTotalOrder, tied_itself}
use Rattle.std.specs.declared.cmp.Ordering.{Ordering}
use Rattle.std.specs.FinMap as finite_map
use Rattle.dd_catalog.proofs.ObjectNames.{equal}
use Rattle.catalog_rows.specs.Owners.{Owner}
use Rattle.catalog_rows.specs.Changes.{IsOne}
use Rattle.catalog_rows_laws.specs.Behind.{put_one, drop_one, put_all, drop_all}
use Rattle.catalog_rows_laws.proofs.Keys.{some_is}
use Rattle.catalog_rows_laws.proofs.Alone.{none_some}

no_both : (b : Bool) → b ≡ true → b ≡ false → ⊥
no_both b t f = let same : ◌≡◌ {A = Bool} true false = sym t ∙ f in cc

itself : {K : Type 0} {R : K → K → Ordering} → IsTotalOrder R → (a b : K) → a ≡ b → eq_by_cmp R a b ≡ true
itself {R = R} total a b e = ap (eq_by_cmp R a) (sym e) ∙ ap is_eq (tied_itself total a)

module _ {K V : Type 0} {R : K → K → Ordering} (total : IsTotalOrder R) (alone : finite_map.IsAntisymmetric R) where
  -- ## One

  one_from : (p : Option (K × V)) (m : finite_map.FinMap R V) (q : K) (v : V) → finite_map.get (put_one p m) q ≡ Some v → (p ≡ Some (q, v)) ⊎ (finite_map.get m q ≡ Some v)
  one_from None m q v e = inr e
  one_from (Some pair) m q v e = by (eq_by_cmp R q pair.0) refl (sym (finite_map.get-insert total m pair.0 pair.1 q) ∙ e)
    where
      by : (b : Bool) → eq_by_cmp R q pair.0 ≡ b → cond b (Some pair.1) (finite_map.get m q) ≡ Some v → (Some pair ≡ Some (q, v)) ⊎ (finite_map.get m q ≡ Some v)
      by true t e =
          let keys : q ≡ pair.0 = alone q pair.0 (equal (R q pair.0) t) in
          let values : pair.1 ≡ v = some_is pair.1 v e in
          inl (λ i. Some (sym keys i, values i))
      by false t e = inr e

  one_stays : (p : Option (K × V)) (m : finite_map.FinMap R V) (q : K) (v : V) → finite_map.get m q ≡ Some v → ((w : V) → p ≡ Some (q, w) → w ≡ v) → finite_map.get (put_one p m) q ≡ Some v
  one_stays None m q v e h = e
  one_stays (Some pair) m q v e h = finite_map.get-insert total m pair.0 pair.1 q ∙ by (eq_by_cmp R q pair.0) refl
    where
      by : (b : Bool) → eq_by_cmp R q pair.0 ≡ b → cond b (Some pair.1) (finite_map.get m q) ≡ Some v
      by true t = let keys : q ≡ pair.0 = alone q pair.0 (equal (R q pair.0) t) in ap Some (h pair.1 (λ i. Some (sym keys i, pair.1)))
      by false t = e

  one_comes : (p : Option (K × V)) (m : finite_map.FinMap R V) (q : K) (v : V) → p ≡ Some (q, v) → finite_map.get (put_one p m) q ≡ Some v
  one_comes p m q v e =
      ap (λ (o : Option (K × V)). finite_map.get (put_one o m) q) e ∙ finite_map.get-insert total m q v q ∙ ap (λ b. cond b (Some v) (finite_map.get m q)) (itself total q q refl)

  one_dropped : (p : Option (K × V)) (m : finite_map.FinMap R V) (q : K) (v : V) → finite_map.get (drop_one p m) q ≡ Some v → (finite_map.get m q ≡ Some v) × ((w : V) → p ≡ Some (q, w) → ⊥)
  one_dropped None m q v e = (e, λ w f. none_some (q, w) f)
  one_dropped (Some pair) m q v e = by (eq_by_cmp R q pair.0) refl (sym (finite_map.get-remove total m pair.0 q) ∙ e)
    where
      by : (b : Bool) → eq_by_cmp R q pair.0 ≡ b → cond b None (finite_map.get m q) ≡ Some v → (finite_map.get m q ≡ Some v) × ((w : V) → Some pair ≡ Some (q, w) → ⊥)
      by true t e = absurd (none_some v e)
      by false t e = (e, λ w f. no_both (eq_by_cmp R q pair.0) (itself total q pair.0 (sym (ap (λ (z : K × V). z.0) (some_is pair (q, w) f)))) t)

  one_left : (p : Option (K × V)) (m : finite_map.FinMap R V) (q : K) (v : V) → finite_map.get m q ≡ Some v → ((w : V) → p ≡ Some (q, w) → ⊥) → finite_map.get (drop_one p m) q ≡ Some v
  one_left None m q v e h = e
  one_left (Some pair) m q v e h = finite_map.get-remove total m pair.0 q ∙ by (eq_by_cmp R q pair.0) refl
    where
      by : (b : Bool) → eq_by_cmp R q pair.0 ≡ b → cond b None (finite_map.get m q) ≡ Some v
      by true t = let keys : q ≡ pair.0 = alone q pair.0 (equal (R q pair.0) t) in absurd (h pair.1 (λ i. Some (sym keys i, pair.1)))
      by false t = e

  at_key : (p : Option (K × V)) (q : K) → ((w : V) × (p ≡ Some (q, w))) ⊎ ((w : V) → p ≡ Some (q, w) → ⊥)
  at_key None q = inr (λ w f. none_some (q, w) f)
  at_key (Some pair) q = by (eq_by_cmp R q pair.0) refl
    where
      by : (b : Bool) → eq_by_cmp R q pair.0 ≡ b → ((w : V) × (Some pair ≡ Some (q, w))) ⊎ ((w : V) → Some pair ≡ Some (q, w) → ⊥)
      by true t = let keys : q ≡ pair.0 = alone q pair.0 (equal (R q pair.0) t) in inl (pair.1, λ i. Some (sym keys i, pair.1))
      by false t = inr (λ w f. no_both (eq_by_cmp R q pair.0) (itself total q pair.0 (sym (ap (λ (z : K × V). z.0) (some_is pair (q, w) f)))) t)

  -- ## All

  module _ (pick : Owner → Option (K × V)) where
    -- one of them has this for the map
    pub record Picked (owners : List Owner) (q : K) (v : V) : Type 0 where
      pub owner : Owner
      pub one : IsOne owner owners
      pub is : pick owner ≡ Some (q, v)

    pub put_from : (xs : List Owner) (m : finite_map.FinMap R V) (q : K) (v : V) → finite_map.get (put_all pick xs m) q ≡ Some v → Picked xs q v ⊎ (finite_map.get m q ≡ Some v)
    put_from [] m q v e = inr e
    put_from (x ∷ xs) m q v e = by (put_from xs (put_one (pick x) m) q v e)
      where
        at : (pick x ≡ Some (q, v)) ⊎ (finite_map.get m q ≡ Some v) → Picked (x ∷ xs) q v ⊎ (finite_map.get m q ≡ Some v)
        at (inl is) = inl (record { owner = x; one = inl refl; is = is })
        at (inr e) = inr e

        by : Picked xs q v ⊎ (finite_map.get (put_one (pick x) m) q ≡ Some v) → Picked (x ∷ xs) q v ⊎ (finite_map.get m q ≡ Some v)
        by (inl p) = inl (record { owner = p.owner; one = inr p.one; is = p.is })
        by (inr e) = at (one_from (pick x) m q v e)

    pub put_stays : (xs : List Owner) (m : finite_map.FinMap R V) (q : K) (v : V) → finite_map.get m q ≡ Some v → ((o : Owner) (w : V) → IsOne o xs → pick o ≡ Some (q, w) → w ≡ v) → finite_map.get (put_all pick xs m) q ≡ Some v
    put_stays [] m q v e h = e
    put_stays (x ∷ xs) m q v e h = put_stays xs (put_one (pick x) m) q v (one_stays (pick x) m q v e (λ w is. h x w (inl refl) is)) (λ o w one is. h o w (inr one) is)

    pub put_comes : (xs : List Owner) (m : finite_map.FinMap R V) (q : K) (v : V) (owner : Owner) → IsOne owner xs → pick owner ≡ Some (q, v) → ((o : Owner) (w : V) → IsOne o xs → pick o ≡ Some (q, w) → w ≡ v) → finite_map.get (put_all pick xs m) q ≡ Some v
    put_comes [] m q v owner one is h = absurd one
    put_comes (x ∷ xs) m q v owner (inl same) is h = put_stays xs (put_one (pick x) m) q v (one_comes (pick x) m q v (ap pick same ∙ is)) (λ o w one is. h o w (inr one) is)
    put_comes (x ∷ xs) m q v owner (inr one) is h = put_comes xs (put_one (pick x) m) q v owner one is (λ o w one is. h o w (inr one) is)

    pub dropped : (xs : List Owner) (m : finite_map.FinMap R V) (q : K) (v : V) → finite_map.get (drop_all pick xs m) q ≡ Some v → (finite_map.get m q ≡ Some v) × ((o : Owner) (w : V) → IsOne o xs → pick o ≡ Some (q, w) → ⊥)
    dropped [] m q v e = (e, λ o w one is. one)
    dropped (x ∷ xs) m q v e =
        let behind = dropped xs (drop_one (pick x) m) q v e in
        let here = one_dropped (pick x) m q v behind.0 in
        (here.0, λ o w one is. by here.1 behind.1 o w one is)
      where
        by : ((w : V) → pick x ≡ Some (q, w) → ⊥) → ((o : Owner) (w : V) → IsOne o xs → pick o ≡ Some (q, w) → ⊥) → (o : Owner) (w : V) → IsOne o (x ∷ xs) → pick o ≡ Some (q, w) → ⊥
        by here behind o w (inl same) is = here w (ap pick same ∙ is)
        by here behind o w (inr one) is = behind o w one is

    pub left : (xs : List Owner) (m : finite_map.FinMap R V) (q : K) (v : V) → finite_map.get m q ≡ Some v → ((o : Owner) (w : V) → IsOne o xs → pick o ≡ Some (q, w) → ⊥) → finite_map.get (drop_all pick xs m) q ≡ Some v
    left [] m q v e h = e
    left (x ∷ xs) m q v e h = left xs (drop_one (pick x) m) q v (one_left (pick x) m q v e (λ w is. h x w (inl refl) is)) (λ o w one is. h o w (inr one) is)

    -- ## Whether one of them has something at a key

    pub record FoundAt (owners : List Owner) (q : K) : Type 0 where
      pub value : V
      pub picked : Picked owners q value

    abbrev pub NoneAt : List Owner → K → Type 0
    NoneAt owners q = (o : Owner) (w : V) → IsOne o owners → pick o ≡ Some (q, w) → ⊥

    pub found_or_none : (xs : List Owner) (q : K) → FoundAt xs q ⊎ NoneAt xs q
    found_or_none [] q = inr (λ o w one is. one)
    found_or_none (x ∷ xs) q = by (at_key (pick x) q) (found_or_none xs q)
      where
        none : ((w : V) → pick x ≡ Some (q, w) → ⊥) → NoneAt xs q → (o : Owner) (w : V) → IsOne o (x ∷ xs) → pick o ≡ Some (q, w) → ⊥
        none here behind o w (inl same) is = here w (ap pick same ∙ is)
        none here behind o w (inr one) is = behind o w one is

        by : ((w : V) × (pick x ≡ Some (q, w))) ⊎ ((w : V) → pick x ≡ Some (q, w) → ⊥) → FoundAt xs q ⊎ NoneAt xs q → FoundAt (x ∷ xs) q ⊎ NoneAt (x ∷ xs) q
        by (inl here) rest = inl (record { value = here.0; picked = record { owner = x; one = inl refl; is = here.1 } })
        by (inr here) (inl f) = inl (record { value = f.value; picked = record { owner = f.picked.owner; one = inr f.picked.one; is = f.picked.is } })
        by (inr here) (inr behind) = inr (none here behind)

-- ## Maps of other values

module _ {K V W : Type 0} {R : K → K → Ordering} (total : IsTotalOrder R) (f : V → W) where
  abbrev pub with_key : K × V → K × W
  with_key pair = (pair.0, f pair.1)

  -- at each key the one has what is made of the other's value there
  abbrev pub IsMapped : finite_map.FinMap R V → finite_map.FinMap R W → Type 0
  IsMapped m other = (q : K) → finite_map.get other q ≡ option_map f (finite_map.get m q)

  put_mapped : (p : Option (K × V)) (m : finite_map.FinMap R V) (other : finite_map.FinMap R W) → IsMapped m other → IsMapped (put_one p m) (put_one (option_map with_key p) other)
  put_mapped None m other h q = h q
  put_mapped (Some pair) m other h q =
      finite_map.get-insert total other pair.0 (f pair.1) q ∙ by (eq_by_cmp R q pair.0) ∙ ap (option_map f) (sym (finite_map.get-insert total m pair.0 pair.1 q))
    where
      by : (b : Bool) → cond b (Some (f pair.1)) (finite_map.get other q) ≡ option_map f (cond b (Some pair.1) (finite_map.get m q))
      by true = refl
      by false = h q

  drop_mapped : (p : Option (K × V)) (m : finite_map.FinMap R V) (other : finite_map.FinMap R W) → IsMapped m other → IsMapped (drop_one p m) (drop_one (option_map with_key p) other)
  drop_mapped None m other h q = h q
  drop_mapped (Some pair) m other h q =
      finite_map.get-remove total other pair.0 q ∙ by (eq_by_cmp R q pair.0) ∙ ap (option_map f) (sym (finite_map.get-remove total m pair.0 q))
    where
      by : (b : Bool) → cond b None (finite_map.get other q) ≡ option_map f (cond b None (finite_map.get m q))
      by true = refl
      by false = h q

  pub all_put : (pick : Owner → Option (K × V)) (xs : List Owner) (m : finite_map.FinMap R V) (other : finite_map.FinMap R W) → IsMapped m other → IsMapped (put_all pick xs m) (put_all (λ owner. option_map with_key (pick owner)) xs other)
  all_put pick [] m other h = h
  all_put pick (x ∷ xs) m other h = all_put pick xs (put_one (pick x) m) (put_one (option_map with_key (pick x)) other) (put_mapped (pick x) m other h)

  pub all_dropped : (pick : Owner → Option (K × V)) (xs : List Owner) (m : finite_map.FinMap R V) (other : finite_map.FinMap R W) → IsMapped m other → IsMapped (drop_all pick xs m) (drop_all (λ owner. option_map with_key (pick owner)) xs other)
  all_dropped pick [] m other h = h
  all_dropped pick (x ∷ xs) m other h = all_dropped pick xs (drop_one (pick x) m) (drop_one (option_map with_key (pick x)) other) (drop_mapped (pick x) m other h)
