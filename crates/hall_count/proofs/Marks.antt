-- A number that is added at the end of a list.
use Rattle.std.proofs.Common.{◌≡◌, ◌≢◌, ℕ, ◌+◌, List, [], ◌∷◌, ◌++◌, nat_eq, arith, refl, sym, ap, ◌∙◌, cond, Result, Ok, Err, OnOk, OnErr, append-nil, eq-eqb, ne_eqb}
use Rattle.std.proofs.lemmas.List.Sums.{sum_by-append}
use Rattle.turn_hall.specs.Prefixes.{IsPrefix}
use Rattle.hall_count.specs.Times.{times}

-- how often a number stands in a list, with m at its end
longer : (n m : ℕ) (xs : List ℕ) → times n (xs ++ m ∷ []) ≡ times n xs + (0 + cond (nat_eq m n) 1 0)
longer n m xs = sum_by-append (λ x. cond (nat_eq x n) 1 0) xs (m ∷ [])

pub times_own : (n : ℕ) (xs : List ℕ) → times n (xs ++ n ∷ []) ≡ times n xs + 1
times_own n xs = longer n n xs ∙ ap (λ b. times n xs + (0 + cond b 1 0)) (eq-eqb n n refl)

pub times_other : (n m : ℕ) (xs : List ℕ) → m ≢ n → times n (xs ++ m ∷ []) ≡ times n xs
times_other n m xs ne = longer n m xs ∙ (ap (λ b. times n xs + (0 + cond b 1 0)) (ne_eqb m n ne) ∙ (let k : ℕ = times n xs in let r : k + 0 ≡ k = omega arith in r))

-- the list after a turn that adds m, or nothing
pub added : {A B : Type 0} (r : Result A B) (m : ℕ) (xs ys : List ℕ) → OnOk r (ys ≡ xs ++ m ∷ []) → OnErr r (ys ≡ xs) → IsPrefix xs ys × ((n : ℕ) → (n ≡ m → ⊥) → times n ys ≡ times n xs)
added (Ok a) m xs ys ok err = ((m ∷ [], ok), λ n ne. ap (times n) ok ∙ times_other n m xs (λ e. ne (sym e)))
added (Err b) m xs ys ok err = (([], err ∙ sym (append-nil xs)), λ n ne. ap (times n) err)
