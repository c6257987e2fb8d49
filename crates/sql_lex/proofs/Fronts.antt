-- How long a front is.
use Rattle.std.proofs.Common.{◌≡◌, ℕ, zero, suc, ◌≤◌, true, List, [], ◌∷◌, length, arith}
use Rattle.sql_lex.specs.Ends.{starts_with_2, starts_with_3}

pub two_there : (x y : ℕ) (bs : List ℕ) → starts_with_2 x y bs ≡ true → 2 ≤ length bs
two_there x y [] h = absurd cc
two_there x y (a ∷ []) h = absurd cc
two_there x y (a ∷ b ∷ bs) h = omega arith

pub three_there : (x y z : ℕ) (bs : List ℕ) → starts_with_3 x y z bs ≡ true → 3 ≤ length bs
three_there x y z [] h = absurd cc
three_there x y z (a ∷ []) h = absurd cc
three_there x y z (a ∷ b ∷ []) h = absurd cc
three_there x y z (a ∷ b ∷ c ∷ bs) h = omega arith
