-- Numbers, each with the part that a value keeps for it.
use Rattle.std.specs.Prelude.{◌≡◌, ℕ, zero, suc, List, [], ◌∷◌, ◌⊎◌, cond, eqb}

-- a number of the list, with its part
abbrev pub Has : {Q : Type 0} → List (ℕ × Q) → ℕ → Q → Type 0
Has [] n q = ⊥
Has (p ∷ ps) n q = ((p.0 ≡ n) × (p.1 ≡ q)) ⊎ Has ps n q

-- the numbers below a count, with the parts that f gives
abbrev pub table_of : {Q : Type 0} → (ℕ → Q) → ℕ → List (ℕ × Q)
table_of f zero = []
table_of f (suc n) = (n, f n) ∷ table_of f n

abbrev pub without : {Q : Type 0} → ℕ → List (ℕ × Q) → List (ℕ × Q)
without n [] = []
without n (p ∷ ps) = cond (eqb p.0 n) (without n ps) (p ∷ without n ps)

abbrev pub alone : {Q : Type 0} → ℕ → List (ℕ × Q) → List (ℕ × Q)
alone n [] = []
alone n (p ∷ ps) = cond (eqb p.0 n) (p ∷ alone n ps) (alone n ps)

-- the same numbers, with the parts that f gives
abbrev pub refreshed : {Q : Type 0} → (ℕ → Q) → List (ℕ × Q) → List (ℕ × Q)
refreshed f [] = []
refreshed f (p ∷ ps) = (p.0, f p.0) ∷ refreshed f ps

-- the parts of the list are those that f gives
abbrev pub AreParts : {Q : Type 0} → (ℕ → Q) → List (ℕ × Q) → Type 0
AreParts {Q} f ps = (n : ℕ) (q : Q) → Has ps n q → q ≡ f n
