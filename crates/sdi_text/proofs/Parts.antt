-- The parts that are left to read.
use Rattle.std.proofs.Common.{◌≡◌, List, [], ◌∷◌, ◌++◌, map, length, refl, sym, ap, ◌∙◌, append_assoc, append-nil, arith}
use Rattle.std.specs.List.{AllByRecursion}

pub is_empty : {V : Type 0} (left : List V) → length left ≡ 0 → left ≡ []
is_empty [] none = refl
is_empty (v ∷ vs) none = absurd (omega arith)

module _ {X Y V : Type 0} (IsHeld : X → Type 0) (value_of : X → Y) (view : V → Y) where
  -- these parts are still to come, and what is left has their values
  pub record Left (all got : List X) (left : List V) : Type 0 where
    pub more : List X
    pub same : all ≡ got ++ more
    pub held : AllByRecursion IsHeld more
    pub values : map view left ≡ map value_of more

  pub start : (all : List X) (left : List V) → AllByRecursion IsHeld all → map view left ≡ map value_of all → Left all [] left
  start all left held is = record { more = all; same = refl; held = held; values = is }

  pub record Taken (all got : List X) (first : V) (others : List V) : Type 0 where
    pub part : X
    pub held : IsHeld part
    pub is : view first ≡ value_of part
    pub next : (new : List X) → new ≡ got ++ part ∷ [] → Left all new others

  -- one more part
  pub taken : (all got : List X) (first : V) (others : List V) → Left all got (first ∷ others) → Taken all got first others
  taken all got first others l = go l.more l.same l.held l.values
    where
      go : (more : List X) → all ≡ got ++ more → AllByRecursion IsHeld more → view first ∷ map view others ≡ map value_of more → Taken all got first others
      go [] same held is = absurd cc
      go (x ∷ xs) same held is = record { part = x; held = held.0; is = cc; next = λ new added. record { more = xs; same = same ∙ sym (append_assoc got (x ∷ []) xs) ∙ ap (λ p. p ++ xs) (sym added); held = held.1; values = cc } }

  -- no part is left
  pub over : (all got : List X) → Left all got [] → got ≡ all
  over all got l = go l.more l.same l.values
    where
      go : (more : List X) → all ≡ got ++ more → [] ≡ map value_of more → got ≡ all
      go [] same is = sym (same ∙ append-nil got)
      go (x ∷ xs) same is = absurd cc
