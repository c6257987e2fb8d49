-- How rules are put together.
use Rattle.std.specs.Prelude.{ℕ, Bool, true, false, List, ◌∷◌, Option, Some, None}
use Rattle.sql_grammar.specs.Lexemes.{keyword, mark, exactly}
use Rattle.sql_grammar.specs.Grammar.{Grammar, one, nothing, seq, means, alt, many}

-- a word of the grammar
abbrev pub word_of : List ℕ → Grammar (Unit {0})
word_of k = means (λ x. tt) (one (keyword k))

-- a sign, by its character
abbrev pub sign_of : ℕ → Grammar (Unit {0})
sign_of m = means (λ x. tt) (one (mark m))

-- a certain string
abbrev pub string_of : List ℕ → Grammar (Unit {0})
string_of s = means (λ x. tt) (one (exactly s))

-- one after the other, with the value of the second
infixr 6 ◌⊳◌
abbrev pub ◌⊳◌ : {A B : Type 0} → Grammar A → Grammar B → Grammar B
g ⊳ h = means (λ p. p.1) (seq g h)

-- one after the other, with the value of the first
infixl 7 ◌⊲◌
abbrev pub ◌⊲◌ : {A B : Type 0} → Grammar A → Grammar B → Grammar A
g ⊲ h = means (λ p. p.0) (seq g h)

-- the value x, for what stands there
abbrev pub gives : {A B : Type 0} → B → Grammar A → Grammar B
gives x g = means (λ y. x) g

-- whether it stands there
abbrev pub flag : {A : Type 0} → Grammar A → Grammar Bool
flag g = alt (means (λ x. true) g) (nothing false)

-- what stands there, if it does
abbrev pub opt : {A : Type 0} → Grammar A → Grammar (Option A)
opt g = alt (means Some g) (nothing None)

-- between parentheses
abbrev pub in_parentheses : {A : Type 0} → Grammar A → Grammar A
in_parentheses g = sign_of 40 ⊳ (g ⊲ sign_of 41)

-- one, and any number more, each read by the second rule
abbrev pub list_of : {A : Type 0} → Grammar A → Grammar A → Grammar (List A)
list_of g h = means (λ p. p.0 ∷ p.1) (seq g (many h))

-- one or more, divided by commas
abbrev pub listed : {A : Type 0} → Grammar A → Grammar (List A)
listed g = list_of g (sign_of 44 ⊳ g)

-- one, and any number more, whose values are put together as they come
abbrev pub fold_of : {A B C : Type 0} → (C → B) → (B → List A → B) → Grammar C → Grammar A → Grammar B
fold_of start step g h = means (λ p. step (start p.0) p.1) (seq g (many h))
