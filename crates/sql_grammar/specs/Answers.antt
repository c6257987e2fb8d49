-- What a function has to answer that reads by a rule.
use Rattle.std.specs.Prelude.{◌≡◌, List, ◌++◌, Option, Some, None, Result, Ok, Err}
use Rattle.sql_grammar.specs.Lexemes.{Lexeme}
use Rattle.sql_grammar.specs.Reading.{Stop, ◌>>=◌}

-- it stopped where reading stops; None is want of memory, which says nothing
abbrev pub Stops : {A : Type 0} → Option Stop → Result A Stop → Type 0
Stops None r = Unit {0}
Stops (Some s) r = r ≡ Err s

-- it gave what reading gives, seen by view, or stopped where reading stops
abbrev pub Gives : {X Y E : Type 0} → (X → Y) → (E → Option Stop) → Result X E → Result Y Stop → Type 0
Gives view stop (Ok x) r = r ≡ Ok (view x)
Gives view stop (Err e) r = Stops (stop e) r

-- ---- what a loop that reads a rule again and again has so far, beside what is still read

-- the values, collected in front
abbrev pub with_front : {A : Type 0} → List A → Result (List A × List Lexeme) Stop → Result (List A × List Lexeme) Stop
with_front front r = r >>= λ x. Ok (front ++ x.0, x.1)

-- no value
abbrev pub without_values : {A : Type 0} → Result (List A × List Lexeme) Stop → Result (Unit {0} × List Lexeme) Stop
without_values r = r >>= λ x. Ok (tt, x.1)

-- one value, put together by f
abbrev pub folded : {A B : Type 0} → (B → List A → B) → B → Result (List A × List Lexeme) Stop → Result (B × List Lexeme) Stop
folded f so_far r = r >>= λ x. Ok (f so_far x.0, x.1)
