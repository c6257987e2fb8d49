-- Numbers with their parts.
use Rattle.std.proofs.Common.{◌≡◌, ◌≢◌, ℕ, zero, suc, ◌<◌, List, [], ◌∷◌, ◌++◌, sym, refl, ap, ◌∙◌, subst, ◌⊎◌, inl, inr, ⊎_elim, eqb, eq-eqb, ne_eqb, Bool, cond, arith}
use mathlib.Core.Logic.{dite}
use native.Mathlib.Decide.{ℕ_discrete}
use Rattle.turn_hall.specs.Numbers.{Has, table_of, without, alone, refreshed}

module _ {Q : Type 0} where
  -- a number of a refreshed list stood in the list, and has the new part
  pub refreshed_has : (f : ℕ → Q) (ps : List (ℕ × Q)) (n : ℕ) (q : Q) → Has (refreshed f ps) n q → ((q' : Q) × Has ps n q') × (q ≡ f n)
  refreshed_has f [] n q h = absurd h
  refreshed_has f (p ∷ ps) n q h =
      ⊎_elim (λ (t : (p.0 ≡ n) × (f p.0 ≡ q)). ((p.1, inl (t.0, refl)), sym t.1 ∙ ap f t.0))
      (λ (t : Has (refreshed f ps) n q). let r = refreshed_has f ps n q t in ((r.0.0, inr r.0.1), r.1)) h

  pub has_refreshed : (f : ℕ → Q) (ps : List (ℕ × Q)) (n : ℕ) (q : Q) → Has ps n q → Has (refreshed f ps) n (f n)
  has_refreshed f [] n q h = absurd h
  has_refreshed f (p ∷ ps) n q h = ⊎_elim (λ (t : (p.0 ≡ n) × (p.1 ≡ q)). inl (t.0, ap f t.0)) (λ (t : Has ps n q). inr (has_refreshed f ps n q t)) h

  pub refreshed_some : (f : ℕ → Q) (ps : List (ℕ × Q)) → ps ≢ [] → refreshed f ps ≢ []
  refreshed_some f [] ne e = ne refl
  refreshed_some f (p ∷ ps) ne e = cc

  by_test : (n : ℕ) (p : ℕ × Q) (A B : List (ℕ × Q)) (P : List (ℕ × Q) → Type 0) → (p.0 ≡ n → P A) → (p.0 ≢ n → P B) → P (cond (eqb p.0 n) A B)
  by_test n p A B P f g = let R : Bool → Type 0 = λ b. P (cond b A B) in dite (ℕ_discrete p.0 n) (λ e. subst R (sym (eq-eqb p.0 n e)) (f e)) (λ ne. subst R (sym (ne_eqb p.0 n ne)) (g ne))

  pub has_without : (n : ℕ) (ps : List (ℕ × Q)) (m : ℕ) (q : Q) → Has (without n ps) m q → Has ps m q × (m ≢ n)
  has_without n [] m q = λ h. absurd h
  has_without n (p ∷ ps) m q = by_test n p (without n ps) (p ∷ without n ps) (λ l. Has l m q → Has (p ∷ ps) m q × (m ≢ n)) (λ _ h. let r = has_without n ps m q h in (inr r.0, r.1))
      (λ ne h. ⊎_elim (λ (t : (p.0 ≡ m) × (p.1 ≡ q)). (inl t, λ e. ne (t.0 ∙ e))) (λ (t : Has (without n ps) m q). let r = has_without n ps m q t in (inr r.0, r.1)) h)

  pub without_has : (n : ℕ) (ps : List (ℕ × Q)) (m : ℕ) (q : Q) → Has ps m q → m ≢ n → Has (without n ps) m q
  without_has n [] m q h ne = absurd h
  without_has n (p ∷ ps) m q h ne = by_test n p (without n ps) (p ∷ without n ps) (λ l. Has l m q)
      (λ e. ⊎_elim (λ (t : (p.0 ≡ m) × (p.1 ≡ q)). absurd (ne (sym t.0 ∙ e))) (λ (t : Has ps m q). without_has n ps m q t ne) h)
      (λ _. ⊎_elim (λ (t : (p.0 ≡ m) × (p.1 ≡ q)). inl t) (λ (t : Has ps m q). inr (without_has n ps m q t ne)) h)

  pub has_alone : (n : ℕ) (ps : List (ℕ × Q)) (m : ℕ) (q : Q) → Has (alone n ps) m q → Has ps m q × (m ≡ n)
  has_alone n [] m q = λ h. absurd h
  has_alone n (p ∷ ps) m q = by_test n p (p ∷ alone n ps) (alone n ps) (λ l. Has l m q → Has (p ∷ ps) m q × (m ≡ n))
      (λ e h. ⊎_elim (λ (t : (p.0 ≡ m) × (p.1 ≡ q)). (inl t, sym t.0 ∙ e)) (λ (t : Has (alone n ps) m q). let r = has_alone n ps m q t in (inr r.0, r.1)) h)
      (λ _ h. let r = has_alone n ps m q h in (inr r.0, r.1))

  pub alone_has : (n : ℕ) (ps : List (ℕ × Q)) (q : Q) → Has ps n q → Has (alone n ps) n q
  alone_has n [] q h = absurd h
  alone_has n (p ∷ ps) q h = by_test n p (p ∷ alone n ps) (alone n ps) (λ l. Has l n q)
      (λ e. ⊎_elim (λ (t : (p.0 ≡ n) × (p.1 ≡ q)). inl t) (λ (t : Has ps n q). inr (alone_has n ps q t)) h)
      (λ ne. ⊎_elim (λ (t : (p.0 ≡ n) × (p.1 ≡ q)). absurd (ne t.0)) (λ (t : Has ps n q). alone_has n ps q t) h)

  pub has_append : (ps rs : List (ℕ × Q)) (m : ℕ) (q : Q) → Has (ps ++ rs) m q → Has ps m q ⊎ Has rs m q
  has_append [] rs m q h = inr h
  has_append (p ∷ ps) rs m q h =
      ⊎_elim (λ (t : (p.0 ≡ m) × (p.1 ≡ q)). inl (inl t))
      (λ (t : Has (ps ++ rs) m q). ⊎_elim (λ (u : Has ps m q). inl (inr u)) (λ (u : Has rs m q). inr u) (has_append ps rs m q t)) h

  pub append_has : (ps rs : List (ℕ × Q)) (m : ℕ) (q : Q) → Has ps m q ⊎ Has rs m q → Has (ps ++ rs) m q
  append_has [] rs m q h = ⊎_elim (λ (t : ⊥). absurd t) (λ (t : Has rs m q). t) h
  append_has (p ∷ ps) rs m q h =
      ⊎_elim (λ (t : Has (p ∷ ps) m q). ⊎_elim (λ (u : (p.0 ≡ m) × (p.1 ≡ q)). inl u) (λ (u : Has ps m q). inr (append_has ps rs m q (inl u))) t)
      (λ (t : Has rs m q). inr (append_has ps rs m q (inr t))) h

  pub some_pair : (ps : List (ℕ × Q)) → ps ≢ [] → (n : ℕ) × (q : Q) × Has ps n q
  some_pair [] ne = absurd (ne refl)
  some_pair (p ∷ ps) ne = (p.0, p.1, inl (refl, refl))

  pub not_empty : (ps : List (ℕ × Q)) (n : ℕ) (q : Q) → Has ps n q → ps ≢ []
  not_empty ps n q h e = let P : List (ℕ × Q) → Type 0 = λ l. Has l n q in subst P e h

  pub has_table : (f : ℕ → Q) (n m : ℕ) (q : Q) → Has (table_of f n) m q → (m < n) × (q ≡ f m)
  has_table f zero m q h = absurd h
  has_table f (suc n) m q h =
      ⊎_elim (λ (t : (n ≡ m) × (f n ≡ q)). let e = t.0 in (omega arith, sym t.1 ∙ ap f t.0)) (λ (t : Has (table_of f n) m q). let r = has_table f n m q t in let l = r.0 in (omega arith, r.1)) h

  pub table_has : (f : ℕ → Q) (n m : ℕ) → m < n → Has (table_of f n) m (f m)
  table_has f zero m h = absurd (omega arith)
  table_has f (suc n) m h = dite (ℕ_discrete n m) (λ e. inl (e, ap f e)) (λ ne. inr (table_has f n m (omega arith)))
