-- Tests, and steps that may stop.
use Rattle.std.proofs.Common.{◌≡◌, Bool, true, false, cond, not, ◌&&◌, ◌||◌, List, [], ◌∷◌, ◌++◌, Result, Ok, Err, refl, ◌⊎◌, inl, inr}
use Rattle.sql_grammar.specs.Lexemes.{Lexeme, Terminal, takes, takes_some, begins}
use Rattle.sql_grammar.specs.Reading.{Stop, ◌>>=◌}

pub chosen : {A : Type 0} (b : Bool) (x y z : A) → cond b x y ≡ z → ((b ≡ true) × (x ≡ z)) ⊎ ((b ≡ false) × (y ≡ z))
chosen true x y z e = inl (refl, e)
chosen false x y z e = inr (refl, e)

pub bit : (b : Bool) → (b ≡ true) ⊎ (b ≡ false)
bit true = inl refl
bit false = inr refl

pub or_false : (a b : Bool) → (a || b) ≡ false → (a ≡ false) × (b ≡ false)
or_false true b e = absurd cc
or_false false b e = (refl, e)

pub or_true : (a b : Bool) → (a || b) ≡ true → (a ≡ true) ⊎ (b ≡ true)
or_true true b e = inl refl
or_true false b e = inr e

pub or_left : (a b : Bool) → a ≡ true → (a || b) ≡ true
or_left true b e = refl
or_left false b e = absurd cc

pub or_right : (a b : Bool) → b ≡ true → (a || b) ≡ true
or_right true b e = refl
or_right false b e = e

pub and_true : (a b : Bool) → (a && b) ≡ true → (a ≡ true) × (b ≡ true)
and_true true b e = (refl, e)
and_true false b e = absurd cc

pub not_true : (a : Bool) → not a ≡ true → a ≡ false
not_true true e = absurd cc
not_true false e = refl

abbrev done : {A : Type 0} → A → Result A Stop
done x = Ok x

pub ok_is : {A : Type 0} (x y : A) → done x ≡ done y → x ≡ y
ok_is x y e = cc

pub bind_ok : {A B : Type 0} (r : Result A Stop) (f : A → Result B Stop) (y : B) → (r >>= f) ≡ Ok y → (x : A) × (r ≡ Ok x) × (f x ≡ Ok y)
bind_ok (Ok x) f y e = (x, refl, e)
bind_ok (Err d) f y e = absurd cc

pub takes_some-append : (ss ts : List Terminal) (l : Lexeme) → takes_some (ss ++ ts) l ≡ (takes_some ss l || takes_some ts l)
takes_some-append [] ts l = refl
takes_some-append (s ∷ ss) ts l = rw (takes_some-append ss ts l) (go (takes s l) (takes_some ss l) (takes_some ts l))
  where
    go : (a b c : Bool) → (a || (b || c)) ≡ ((a || b) || c)
    go true b c = refl
    go false b c = refl

pub begins-append : (ss ts : List Terminal) (ls : List Lexeme) → begins (ss ++ ts) ls ≡ (begins ss ls || begins ts ls)
begins-append ss ts [] = refl
begins-append ss ts (l ∷ ls) = takes_some-append ss ts l

pub begins-none : (ls : List Lexeme) → begins [] ls ≡ false
begins-none [] = refl
begins-none (l ∷ ls) = refl
