-- The plain reader: from left to right, where the next token decides each choice.
use Rattle.std.specs.Prelude.{ℕ, zero, suc, Bool, true, false, List, [], ◌∷◌, ◌++◌, length, ◌&&◌, ◌||◌, Result, Ok, Err, if◌then◌else◌}
use Rattle.sql_grammar.specs.Lexemes.{Lexeme, Terminal, content, takes, begins, is_long}
use Rattle.sql_grammar.specs.Grammar.{Grammar, one, nothing, seq, means, alt, many, if_next}

-- where reading stopped: the tokens from the faulty one on, and whether that is a name that is too long
pub record Stop : Type 0 where
  pub rest : List Lexeme
  pub long : Bool

infixl 10 ◌>>=◌
abbrev pub ◌>>=◌ : {A B : Type 0} → Result A Stop → (A → Result B Stop) → Result B Stop
(Ok x) >>= f = f x
(Err e) >>= f = Err e

-- whether the rule may be nothing
abbrev pub null : {A : Type 0} → Grammar A → Bool
null (one t) = false
null (nothing x) = true
null (seq g h) = null g && null h
null (means f g) = null g
null (alt g h) = null g || null h
null (many g) = true
null (if_next t) = true

-- what the rule may begin with
abbrev pub first : {A : Type 0} → Grammar A → List Terminal
first (one t) = t ∷ []
first (nothing x) = []
first (seq g h) = first g ++ (if null g then first h else [])
first (means f g) = first g
first (alt g h) = first g ++ first h
first (many g) = first g
first (if_next t) = t ∷ []

abbrev pub read_one : Terminal → List Lexeme → Result (List ℕ × List Lexeme) Stop
read_one t [] = Err (record { rest = []; long = false })
read_one t (l ∷ ls) =
    if takes t l then (if is_long l then Err (record { rest = l ∷ ls; long = true }) else Ok (content l, ls)) else Err (record { rest = l ∷ ls; long = false })

-- n times at most; a rule that is repeated takes a token each time, so the number of tokens is enough
abbrev pub read_many : {A : Type 0} → (List Lexeme → Bool) → (List Lexeme → Result (A × List Lexeme) Stop) → ℕ → List Lexeme → Result (List A × List Lexeme) Stop
read_many starts read zero ls = Ok ([], ls)
read_many starts read (suc n) ls = if starts ls then (read ls >>= λ x. read_many starts read n x.1 >>= λ xs. Ok (x.0 ∷ xs.0, xs.1)) else Ok ([], ls)

abbrev pub read_next : Terminal → List Lexeme → Result (Bool × List Lexeme) Stop
read_next t [] = Ok (false, [])
read_next t (l ∷ ls) = if takes t l then (if is_long l then Err (record { rest = l ∷ ls; long = true }) else Ok (true, ls)) else Ok (false, l ∷ ls)

-- the value that the first tokens stand for with the tokens that follow, or where reading stops
abbrev pub read : {A : Type 0} → Grammar A → List Lexeme → Result (A × List Lexeme) Stop
read (one t) ls = read_one t ls
read (nothing x) ls = Ok (x, ls)
read (seq g h) ls = read g ls >>= λ x. read h x.1 >>= λ y. Ok ((x.0, y.0), y.1)
read (means f g) ls = read g ls >>= λ x. Ok (f x.0, x.1)
read (alt g h) ls = if begins (first g) ls then read g ls else read h ls
read (many g) ls = read_many (begins (first g)) (read g) (length ls) ls
read (if_next t) ls = read_next t ls
