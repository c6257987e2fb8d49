-- How often a number stands in a list.
use Rattle.std.specs.Prelude.{ℕ, List, count_by, nat_eq}

abbrev pub times : ℕ → List ℕ → ℕ
times n xs = count_by (λ x. nat_eq x n) xs
