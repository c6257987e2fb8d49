-- Grammars as values, and which tokens stand for which value.
use Rattle.std.specs.Prelude.{◌≡◌, ℕ, Bool, true, false, List, [], ◌∷◌, ◌⊎◌, IsTrue}
use Rattle.sql_grammar.specs.Lexemes.{Lexeme, Terminal, content, takes, begins}

-- A rule, by the values of what it reads: one token, nothing, one rule after the other, a rule whose values are changed,
-- one of two rules, a rule any number of times, and a token that belongs here wherever it stands next.
pub data Grammar : Type 0 → Type 1 where
  one : Terminal → Grammar (List ℕ)
  nothing : {A : Type 0} → A → Grammar A
  seq : {A B : Type 0} → Grammar A → Grammar B → Grammar (A × B)
  means : {A B : Type 0} → (A → B) → Grammar A → Grammar B
  alt : {A : Type 0} → Grammar A → Grammar A → Grammar A
  many : {A : Type 0} → Grammar A → Grammar (List A)
  if_next : Terminal → Grammar Bool

-- values one after the other, each said by says
abbrev pub SaysMany : {A : Type 0} → (List Lexeme → List Lexeme → A → Type 0) → List Lexeme → List Lexeme → List A → Type 0
SaysMany says before after [] = before ≡ after
SaysMany says before after (x ∷ xs) = (middle : List Lexeme) × says before middle x × SaysMany says middle after xs

-- before begins with tokens that stand for v by the rule, and after is what follows them
abbrev pub Says : {A : Type 0} → Grammar A → List Lexeme → List Lexeme → A → Type 0
Says (one t) before after v = (l : Lexeme) × IsTrue (takes t l) × (before ≡ l ∷ after) × (v ≡ content l)
Says (nothing x) before after v = (before ≡ after) × (v ≡ x)
Says (seq g h) before after v = (middle : List Lexeme) × Says g before middle v.0 × Says h middle after v.1
Says (means f g) before after v = (x : _) × Says g before after x × (v ≡ f x)
Says (alt g h) before after v = Says g before after v ⊎ Says h before after v
Says (many g) before after v = SaysMany (Says g) before after v
Says (if_next t) before after v =
    ((l : Lexeme) × IsTrue (takes t l) × (before ≡ l ∷ after) × (v ≡ true)) ⊎ ((begins (t ∷ []) before ≡ false) × (before ≡ after) × (v ≡ false))
