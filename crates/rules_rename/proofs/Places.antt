-- A list up to one of its items, and from there.
use Rattle.std.specs.Prelude.{◌≡◌, ℕ, ◌+◌, ◌<◌, List, [], ◌∷◌, ◌++◌, length, take, drop}
use Rattle.std.proofs.Common.{sym, ◌∙◌, ap, get_or}
use Rattle.std.proofs.lemmas.List.{take_more, drop_more}

pub from_item : {A : Type 0} (xs : List A) (at : ℕ) (x : A) → at < length xs → x ≡ get_or xs at x → drop at xs ≡ x ∷ drop (at + 1) xs
from_item xs at x lt is = drop_more xs at x lt ∙ ap (λ y. y ∷ drop (at + 1) xs) (sym is)

pub up_to_item : {A : Type 0} (xs : List A) (at : ℕ) (x : A) → at < length xs → x ≡ get_or xs at x → take (at + 1) xs ≡ take at xs ++ x ∷ []
up_to_item xs at x lt is = take_more xs at x lt ∙ ap (λ y. take at xs ++ y ∷ []) (sym is)
