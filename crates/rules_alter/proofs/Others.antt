-- What stands among others.
use Rattle.std.specs.Prelude.{◌≡◌, Bool, true, false, ◌&&◌, ◌||◌, List, [], ◌∷◌, filter, refl, if◌then◌else◌}
use Rattle.std.specs.List.{list_any}
use Rattle.std.proofs.Common.{◌∙◌, ap}

one_more : (kept here : Bool) → {X : Type 0} → (p : X → Bool) (x : X) (rest : List X) → p x ≡ here → list_any p (if kept then x ∷ rest else rest) ≡ (kept && here) || list_any p rest
one_more true here p x rest is = ap (λ b. b || list_any p rest) is
one_more false here p x rest is = refl

-- one of those that are kept has it
pub any_other : {X : Type 0} → (kept p : X → Bool) (xs : List X) → list_any p (filter kept xs) ≡ list_any (λ (x : X). kept x && p x) xs
any_other kept p [] = refl
any_other kept p (x ∷ xs) = one_more (kept x) (p x) p x (filter kept xs) refl ∙ ap (λ b. (kept x && p x) || b) (any_other kept p xs)
