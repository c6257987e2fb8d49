-- What lists hold.
use Rattle.std.specs.Prelude.{◌≡◌, ◌⊎◌, Bool, true, false, List, [], ◌∷◌, ◌++◌, filter, if◌then◌else◌, refl}
use Rattle.std.specs.List.{list_any, list_all}
use Rattle.std.proofs.Common.{sym, ◌∙◌, ap, inl, inr}
use Rattle.std.proofs.lemmas.Bool.{true≢false, and_parts, or_cases}

-- the list holds the item
abbrev pub IsIn : {X : Type 0} → X → List X → Type 0
IsIn x [] = ⊥
IsIn x (y ∷ ys) = (x ≡ y) ⊎ IsIn x ys

pub in_filter : {X : Type 0} (p : X → Bool) (x : X) (xs : List X) → p x ≡ true → IsIn x xs → IsIn x (filter p xs)
in_filter p x [] passes is = is
in_filter {X = X} p x (y ∷ ys) passes is = on (p y) refl is (λ later. in_filter p x ys passes later)
  where
    on : (b : Bool) → p y ≡ b → IsIn x (y ∷ ys) → (IsIn x ys → IsIn x (filter p ys)) → IsIn x (if b then y ∷ filter p ys else filter p ys)
    on true t (inl here) rest = inl here
    on true t (inr later) rest = inr (rest later)
    on false t (inl here) rest = absurd (true≢false (sym passes ∙ ap p here ∙ t))
    on false t (inr later) rest = rest later

pub filter_in : {X : Type 0} (p : X → Bool) (x : X) (xs : List X) → IsIn x (filter p xs) → (p x ≡ true) × IsIn x xs
filter_in p x [] is = absurd is
filter_in {X = X} p x (y ∷ ys) is = on (p y) refl is (λ later. filter_in p x ys later)
  where
    on : (b : Bool) → p y ≡ b → IsIn x (if b then y ∷ filter p ys else filter p ys) → (IsIn x (filter p ys) → (p x ≡ true) × IsIn x ys) → (p x ≡ true) × IsIn x (y ∷ ys)
    on true t (inl here) rest = (ap p here ∙ t, inl here)
    on true t (inr later) rest = let (passes, there) = rest later in (passes, inr there)
    on false t later rest = let (passes, there) = rest later in (passes, inr there)

pub in_front : {X : Type 0} (x : X) (xs ys : List X) → IsIn x xs → IsIn x (xs ++ ys)
in_front x [] ys is = absurd is
in_front x (z ∷ zs) ys (inl here) = inl here
in_front x (z ∷ zs) ys (inr later) = inr (in_front x zs ys later)

pub in_back : {X : Type 0} (x : X) (xs ys : List X) → IsIn x ys → IsIn x (xs ++ ys)
in_back x [] ys is = is
in_back x (z ∷ zs) ys is = inr (in_back x zs ys is)

pub in_either : {X : Type 0} (x : X) (xs ys : List X) → IsIn x (xs ++ ys) → IsIn x xs ⊎ IsIn x ys
in_either x [] ys is = inr is
in_either x (z ∷ zs) ys (inl here) = inl (inl here)
in_either x (z ∷ zs) ys (inr later) = elim (in_either x zs ys later) [
  | inl front ↦ inl (inr front)
  | inr back ↦ inr back
]

-- the item that some test finds
pub some_in : {X : Type 0} (p : X → Bool) (xs : List X) → list_any p xs ≡ true → (x : X) × IsIn x xs × (p x ≡ true)
some_in p [] any = absurd (true≢false (sym any))
some_in p (y ∷ ys) any = elim (or_cases (p y) (list_any p ys) any) [
  | inl here ↦ (y, inl refl, here)
  | inr later ↦ let (x, there, passes) = some_in p ys later in (x, inr there, passes)
]

pub each_of : {X : Type 0} (p : X → Bool) (x : X) (xs : List X) → list_all p xs ≡ true → IsIn x xs → p x ≡ true
each_of p x [] all is = absurd is
each_of p x (y ∷ ys) all is =
    let (here, rest) = and_parts (p y) (list_all p ys) all in
    elim is [
      | inl first ↦ ap p first ∙ here
      | inr later ↦ each_of p x ys rest later
    ]
