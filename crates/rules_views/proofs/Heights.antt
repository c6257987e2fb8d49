-- The greatest height of what sources show.
use Rattle.std.proofs.Common.{◌≡◌, ℕ, ◌+◌, ◌<◌, ◌≤◌, Bool, true, false, List, [], ◌∷◌, ◌++◌, length, drop, sym, ap, ◌∙◌, get_or}
use Rattle.std.proofs.lemmas.List.{drop_more}
use Rattle.std.specs.Prelude.{nat_lt, if◌then◌else◌}
use Rattle.rules_views.specs.declared.shown.Shown.{Shown}
use Rattle.rules_views.specs.Columns.{higher, greatest}

pub greatest_at : (most : ℕ) (xs : List Shown) (at : ℕ) (x : Shown) → at < length xs → x ≡ get_or xs at x → greatest most (drop at xs) ≡ greatest (higher most x.height) (drop (at + 1) xs)
greatest_at most xs at x lt is = ap (greatest most) (drop_more xs at x lt ∙ ap (λ y. y ∷ drop (at + 1) xs) (sym is))

higher_within : (a b bound : ℕ) → a ≤ bound → b ≤ bound → higher a b ≤ bound
higher_within a b bound la lb = on (nat_lt a b)
  where
    on : (test : Bool) → (if test then b else a) ≤ bound
    on true = lb
    on false = la

pub greatest_push : (most : ℕ) (xs : List Shown) (x : Shown) (bound : ℕ) → greatest most xs ≤ bound → x.height ≤ bound → greatest most (xs ++ x ∷ []) ≤ bound
greatest_push most [] x bound before last = higher_within most x.height bound before last
greatest_push most (y ∷ xs) x bound before last = greatest_push (higher most y.height) xs x bound before last
