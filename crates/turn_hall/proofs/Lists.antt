-- Prefixes, places of lists, and a function that is changed at one place.
use Rattle.std.proofs.Common.{◌≡◌, ◌≢◌, ℕ, zero, suc, ◌+◌, ◌<◌, ◌≤◌, List, [], ◌∷◌, ◌++◌, length, set, get_or, sym, refl, ap, ◌∙◌, subst, ◌⊎◌, inl, inr, ⊎_elim, eqb, eq-eqb, ne_eqb, Bool, cond, arith, append_assoc, append-nil, length-append, drop, lt-ltb, le-ltb, lt_of_not-le}
use mathlib.Core.Option.{some, some-injective, some-ne-none}
use mathlib.Core.Logic.{dite}
use native.Mathlib.Decide.{dec_le}
use lib.ListN.{get_elem?}
use Rattle.atomic_table.proofs.Lists.{at_set}
use Rattle.turn_hall.specs.Prefixes.{IsPrefix, longer}

-- f, with a at k
abbrev pub put : (ℕ → ℕ) → ℕ → ℕ → ℕ → ℕ
put f k a i = cond (eqb i k) a (f i)

pub put_here : (f : ℕ → ℕ) (k a : ℕ) → put f k a k ≡ a
put_here f k a = ap (λ b. cond b a (f k)) (eq-eqb k k refl)

pub put_else : (f : ℕ → ℕ) (k a i : ℕ) → i ≢ k → put f k a i ≡ f i
put_else f k a i ne = ap (λ b. cond b a (f i)) (ne_eqb i k ne)

module _ {A : Type 0} where
  pub there : (l : List A) (i : ℕ) (a b : A) → get_elem? l i ≡ some b → get_elem? (set l i a) i ≡ some a
  there [] i a b e = absurd (some-ne-none b (sym e))
  there (x ∷ xs) zero a b e = refl
  there (x ∷ xs) (suc i) a b e = there xs i a b e

  -- what holds of each element, after one was replaced
  pub changed : (P P' : ℕ → A → Type 0) (l : List A) (i : ℕ) (a : A) → ((j : ℕ) (b : A) → get_elem? l j ≡ some b → P j b) → P' i a
      → ((j : ℕ) (b : A) → j ≢ i → P j b → P' j b) → (j : ℕ) (b : A) → get_elem? (set l i a) j ≡ some b → P' j b
  changed P P' l i a each mine others j b e =
      ⊎_elim (λ (t : (j ≡ i) × (a ≡ b)). subst (λ (z : ℕ × A). P' z.0 z.1) (λ k. (sym t.0 k, t.1 k)) mine)
      (λ (t : (j ≢ i) × (get_elem? l j ≡ some b)). others j b t.0 (each j b t.1)) (at_set l i j a b e)

  pub at_end : (l : List A) (a b : A) (j : ℕ) → get_elem? (l ++ a ∷ []) j ≡ some b → ((j < length l) × (get_elem? l j ≡ some b)) ⊎ ((j ≡ length l) × (a ≡ b))
  at_end [] a b zero e = inr (refl, some-injective a b e)
  at_end [] a b (suc j) e = absurd (some-ne-none b (sym e))
  at_end (x ∷ xs) a b zero e = inl (omega arith, e)
  at_end (x ∷ xs) a b (suc j) e =
      ⊎_elim (λ (t : (j < length xs) × (get_elem? xs j ≡ some b)). let h = t.0 in inl (omega arith, t.1)) (λ (t : (j ≡ length xs) × (a ≡ b)). inr (ap suc t.0, t.1)) (at_end xs a b j e)

  pub within : (l : List A) (b : A) (j : ℕ) → get_elem? l j ≡ some b → j < length l
  within [] b j e = absurd (some-ne-none b (sym e))
  within (x ∷ xs) b zero e = omega arith
  within (x ∷ xs) b (suc j) e = let h = within xs b j e in omega arith

  pub only : (P : ℕ → A → Type 0) (a : A) → P 0 a → (j : ℕ) (b : A) → get_elem? (a ∷ []) j ≡ some b → P j b
  only P a h zero b e = subst (P 0) (some-injective a b e) h
  only P a h (suc j) b e = absurd (some-ne-none b (sym e))

  pub whole : (xs : List A) → IsPrefix xs xs
  whole xs = ([], sym (append-nil xs))

  pub further : (xs ys zs : List A) → IsPrefix xs ys → IsPrefix ys zs → IsPrefix xs zs
  further xs ys zs p q = (p.0 ++ q.0, q.1 ∙ (ap (λ (w : List A). w ++ q.0) p.1 ∙ append_assoc xs p.0 q.0))

  pub grown : (xs ys : List A) → IsPrefix xs ys → length xs ≤ length ys
  grown xs ys p = let e : length ys ≡ length xs + length p.0 = ap length p.1 ∙ length-append xs p.0 in omega arith

  -- of two beginnings of one list the shorter begins the longer
  begins : (xs ys zs : List A) → IsPrefix xs zs → IsPrefix ys zs → length xs ≤ length ys → IsPrefix xs ys
  begins [] ys zs p q h = (ys, refl)
  begins (x ∷ xs) [] zs p q h = absurd (omega arith)
  begins (x ∷ xs) (y ∷ ys) zs p q h =
      let e : x ∷ (xs ++ p.0) ≡ y ∷ (ys ++ q.0) = sym p.1 ∙ q.1 in
      let tails : xs ++ p.0 ≡ ys ++ q.0 = ap (drop 1) e in
      let heads : x ≡ y = ap (λ (l : List A). get_or l 0 x) e in
      let r = begins xs ys (xs ++ p.0) (p.0, refl) (q.0, tails) (omega arith) in (r.0, λ k. sym heads k ∷ r.1 k)

  -- a beginning that isn't shorter is the list
  filled : (xs zs : List A) → IsPrefix xs zs → length zs ≤ length xs → xs ≡ zs
  filled [] [] p h = refl
  filled [] (z ∷ zs) p h = absurd (omega arith)
  filled (x ∷ xs) [] p h = absurd (let e : [] ≡ x ∷ (xs ++ p.0) = p.1 in cc)
  filled (x ∷ xs) (z ∷ zs) p h =
      let tails : zs ≡ xs ++ p.0 = ap (drop 1) p.1 in let heads : z ≡ x = ap (λ (l : List A). get_or l 0 z) p.1 in λ k. sym heads k ∷ filled xs zs (p.0, tails) (omega arith) k

  longer_is : (xs ys : List A) (P : List A → Type 0) → (length xs < length ys → P ys) → (length ys ≤ length xs → P xs) → P (longer xs ys)
  longer_is xs ys P f g =
      let R : Bool → Type 0 = λ b. P (cond b ys xs) in
      dite (dec_le (length ys) (length xs)) (λ h. subst R (sym (le-ltb (length xs) (length ys) h)) (g h)) (λ n. let l : length xs < length ys = lt_of_not-le n in subst R (sym (lt-ltb (length xs) (length ys) l)) (f l))

  pub longer_begins : (xs ys zs : List A) → IsPrefix xs zs → IsPrefix ys zs → IsPrefix (longer xs ys) zs
  longer_begins xs ys zs p q = longer_is xs ys (λ l. IsPrefix l zs) (λ _. q) (λ _. p)

  pub begins_longer : (xs ys zs : List A) → IsPrefix xs zs → IsPrefix ys zs → IsPrefix xs (longer xs ys) × IsPrefix ys (longer xs ys)
  begins_longer xs ys zs p q = longer_is xs ys (λ l. IsPrefix xs l × IsPrefix ys l) (λ h. (begins xs ys zs p q (omega arith), whole ys)) (λ h. (whole xs, begins ys xs zs q p h))

  pub longer_left : (xs ys zs : List A) → IsPrefix ys zs → xs ≡ zs → longer xs ys ≡ zs
  longer_left xs ys zs q e = let n = grown ys zs q in let m : length xs ≡ length zs = ap length e in longer_is xs ys (λ l. l ≡ zs) (λ h. absurd (omega arith)) (λ _. e)

  pub longer_right : (xs ys zs : List A) → IsPrefix xs zs → ys ≡ zs → longer xs ys ≡ zs
  longer_right xs ys zs p e = let m : length ys ≡ length zs = ap length e in longer_is xs ys (λ l. l ≡ zs) (λ _. e) (λ h. filled xs zs p (omega arith))
