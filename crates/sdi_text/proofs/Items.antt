-- Items determine the list that they are of.
use Rattle.std.proofs.Common.{◌≡◌, List, [], ◌∷◌, Some, refl}
use Rattle.serde_json.specs.Data.{Data}
use Rattle.serde_json.specs.View.{items_of}

pub some_same : {X : Type 0} (x y : X) → Some x ≡ Some y → x ≡ y
some_same x y e = cc

pub items_same : (xs ys : List Data) → items_of xs ≡ items_of ys → xs ≡ ys
items_same [] [] e = refl
items_same [] (y ∷ ys) e = absurd cc
items_same (x ∷ xs) [] e = absurd cc
items_same (x ∷ xs) (y ∷ ys) e = let first : x ≡ y = cc in let others = items_same xs ys cc in rw (first, others) refl
