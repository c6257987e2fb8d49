-- Lists in which no two items are alike, item by item.
use Rattle.std.specs.Prelude.{◌≡◌, Bool, true, false, List, [], ◌∷◌, ◌++◌, refl}
use Rattle.std.specs.List.{list_any, list_all}
use Rattle.std.proofs.lemmas.Bool.{and_parts, or_parts, or_from}
use Rattle.dd_definitions.specs.Distinct.{are_distinct}
use Rattle.rules_create.proofs.Lists.{distinct_parts}

none_at : {X : Type 0} (p : X → Bool) (xs : List X) (y : X) (ys : List X) → list_any p (xs ++ y ∷ ys) ≡ false → p y ≡ false
none_at p [] y ys e = (or_parts (p y) (list_any p ys) e).0
none_at p (x ∷ xs) y ys e = none_at p xs y ys (or_parts (p x) (list_any p (xs ++ y ∷ ys)) e).1

-- no item in front is like one behind it
pub apart_before : {X : Type 0} (like : X → X → Bool) (xs : List X) (y : X) (ys : List X) → are_distinct like (xs ++ y ∷ ys) ≡ true → list_any (λ x. like x y) xs ≡ false
apart_before like [] y ys d = refl
apart_before like (x ∷ xs) y ys d =
    let (first, rest) = distinct_parts like x (xs ++ y ∷ ys) d in
    or_from (like x y) (list_any (λ z. like z y) xs) (none_at (like x) xs y ys first) (apart_before like xs y ys rest)

-- an item of a list of which all pass
pub all_at : {X : Type 0} (p : X → Bool) (xs : List X) (y : X) (ys : List X) → list_all p (xs ++ y ∷ ys) ≡ true → p y ≡ true
all_at p [] y ys all = (and_parts (p y) (list_all p ys) all).0
all_at p (x ∷ xs) y ys all = all_at p xs y ys (and_parts (p x) (list_all p (xs ++ y ∷ ys)) all).1
