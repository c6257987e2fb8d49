-- What the slot has that a seat took.
use Rattle.std.proofs.Common.{◌≡◌, ℕ, List, [], ◌∷◌, sym, ap, ◌∙◌}
use Rattle.std.specs.Prelude.{Option, Some, None}

module _ {T : Type 0} where
  abbrev value_or : T → Option T → T
  value_or d None = d
  value_or d (Some x) = x

  abbrev value_in : List (ℕ × Option T) → T → T
  value_in [] d = d
  value_in (p ∷ ps) d = value_or d p.1

  pub same_value : (p : Option T) (x y : T) → p ≡ Some x → p ≡ Some y → x ≡ y
  same_value p x y e f = ap (λ q. value_or x q) (sym e ∙ f)

  pub same_in : (c : List (ℕ × Option T)) (x y : T) → c ≡ (0, Some x) ∷ [] → c ≡ (0, Some y) ∷ [] → x ≡ y
  same_in c x y e f = ap (λ l. value_in l x) (sym e ∙ f)
