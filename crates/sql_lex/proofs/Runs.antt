-- The front of a list that is as long as a run is the run.
use Rattle.std.proofs.Common.{◌≡◌, ℕ, zero, suc, List, [], ◌∷◌, length, take, refl, ap}
use Rattle.sql_lex.specs.Pieces.{run}

front_again : {A : Type 0} (k : ℕ) (xs : List A) → take (length (take k xs)) xs ≡ take k xs
front_again zero xs = refl
front_again (suc k) [] = refl
front_again {A} (suc k) (x ∷ xs) = ap (λ (ys : List A). x ∷ ys) (front_again k xs)

pub run_again : (bs : List ℕ) → take (length (run bs)) bs ≡ run bs
unfolding run
run_again bs = front_again _ bs
