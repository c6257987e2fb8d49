-- What a list of tokens is by a grammar: a value, or where its first fault is.
use Rattle.std.specs.Prelude.{◌≡◌, Bool, true, false, List, [], ◌∷◌, ◌++◌, Result, Ok, Err}
use Rattle.sql_grammar.specs.Lexemes.{Lexeme, is_long, Short}
use Rattle.sql_grammar.specs.Grammar.{Grammar, Says}
use Rattle.sql_grammar.specs.Reading.{Stop, read}

-- some tokens behind these make it a sentence of the grammar
abbrev pub GoesOn : {A : Type 0} → Grammar A → List Lexeme → Type 0
GoesOn {A} g front = (more : List Lexeme) × (v : A) × Says g (front ++ more) [] v

-- with the next token no sentence goes on; at the end, there is no sentence
abbrev pub EndsHere : {A : Type 0} → Grammar A → List Lexeme → List Lexeme → Type 0
EndsHere {A} g front [] = (v : A) → Says g front [] v → ⊥
EndsHere g front (l ∷ rest) = GoesOn g (front ++ l ∷ []) → ⊥

-- the tokens, all of them, stand for v, and no name is too long
pub record IsSentence {A : Type 0} (g : Grammar A) (ls : List Lexeme) (v : A) : Type 0 where
  pub says : Says g ls [] v
  pub short : Short ls

-- the first of rest, or the end, is the first faulty token
pub record IsFaultyAt {A : Type 0} (g : Grammar A) (ls rest : List Lexeme) : Type 0 where
  pub front : List Lexeme
  pub parts : ls ≡ front ++ rest
  pub short : Short front
  pub before : GoesOn g front
  pub here : EndsHere g front rest

-- the token l before rest is a name that is too long, where a name is taken, and it is met first
pub record IsTooLongAt {A : Type 0} (g : Grammar A) (ls : List Lexeme) (l : Lexeme) (rest : List Lexeme) : Type 0 where
  pub front : List Lexeme
  pub parts : ls ≡ front ++ l ∷ rest
  pub short : Short front
  pub goes_on : GoesOn g (front ++ l ∷ [])
  pub long : is_long l ≡ true

-- a value; or a syntax error at the first of the tokens given, or at the end; or a name that is too long, and what follows it
pub data Verdict (A : Type 0) : Type 0 where
  good : A → Verdict A
  syntax_at : List Lexeme → Verdict A
  too_long : Lexeme → List Lexeme → Verdict A

-- the tokens read so by the grammar
abbrev pub Reads : {A : Type 0} → Grammar A → List Lexeme → Verdict A → Type 0
Reads g ls (good v) = IsSentence g ls v
Reads g ls (syntax_at rest) = IsFaultyAt g ls rest
Reads g ls (too_long l rest) = IsTooLongAt g ls l rest

-- ---- what the plain reader finds

abbrev pub stopped_at : {A : Type 0} → List Lexeme → Bool → Verdict A
stopped_at [] long = syntax_at []
stopped_at (l ∷ rest) true = too_long l rest
stopped_at (l ∷ rest) false = syntax_at (l ∷ rest)

abbrev pub followed_by : {A : Type 0} → A → List Lexeme → Verdict A
followed_by v [] = good v
followed_by v (l ∷ rest) = syntax_at (l ∷ rest)

abbrev pub found : {A : Type 0} → Result (A × List Lexeme) Stop → Verdict A
found (Ok x) = followed_by x.0 x.1
found (Err s) = stopped_at s.rest s.long

abbrev pub verdict_of : {A : Type 0} → Grammar A → List Lexeme → Verdict A
verdict_of g ls = found (read g ls)
