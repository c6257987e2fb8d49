-- A value that is changed by a rule again and again, as a loop does it.
use Rattle.std.proofs.Common.{◌≡◌, ◌<◌, true, List, ◌∷◌, length, Ok, Err, ap, ◌∙◌}
use Rattle.sql_grammar.specs.Lexemes.{Lexeme, begins}
use Rattle.sql_grammar.specs.Grammar.{Grammar, means, many}
use Rattle.sql_grammar.specs.Reading.{◌>>=◌, first, read}
use Rattle.sql_grammar.specs.Checks.{one_token_decides}
use Rattle.sql_grammar.specs.Answers.{folded}
use Rattle.sql_grammar.proofs.Steady.{Read}
use Rattle.sql_grammar.proofs.Loops.{fewer, fold_goes_on}

abbrev changed : {A B : Type 0} → (A → B) → Read A → Read B
changed f r = r >>= λ x. Ok (f x.0, x.1)

-- what was read before it was changed
abbrev IsFrom : {A B : Type 0} → (A → B) → Read A → B → List Lexeme → Type 0
IsFrom {A} f r y rest = (a : A) × (r ≡ Ok (a, rest)) × (f a ≡ y)

abbrev value_in : {B : Type 0} → B → Read B → B
value_in y (Ok x) = x.0
value_in y (Err s) = y

abbrev rest_in : {B : Type 0} → Read B → List Lexeme
rest_in (Ok x) = x.1
rest_in (Err s) = s.rest

unchanged : {A B : Type 0} (f : A → B) (r : Read A) (y : B) (rest : List Lexeme) → changed f r ≡ Ok (y, rest) → IsFrom f r y rest
unchanged {A} f (Ok x) y rest e = (x.0, ap (λ (z : List Lexeme). at_rest x.0 z) (ap rest_in e), ap (value_in y) e)
  where
    at_rest : A → List Lexeme → Read A
    at_rest a z = Ok (a, z)
unchanged f (Err s) y rest e = absurd cc

-- each time fewer tokens are left
pub shorter : {A B : Type 0} (g : Grammar A) (f : A → B) (ls : List Lexeme) (y : B) (mid : List Lexeme) → one_token_decides (many g) ≡ true → read (means f g) ls ≡ Ok (y, mid) → length mid < length ls
shorter g f ls y mid ok e =
    let from = unchanged f (read g ls) y mid e in
    fewer g ls from.0 mid ok from.1

-- with one value more
pub with_next : {A B : Type 0} (g : Grammar A) (step : B → A → B) (steps : B → List A → B) (acc next : B) (ls mid : List Lexeme) (total : Read B) → one_token_decides (many g) ≡ true
    → ((b : B) (a : A) (xs : List A) → steps b (a ∷ xs) ≡ steps (step b a) xs) → begins (first g) ls ≡ true → read (means (step acc) g) ls ≡ Ok (next, mid)
    → folded steps acc (read (many g) ls) ≡ total → folded steps next (read (many g) mid) ≡ total
with_next {A} g step steps acc next ls mid total ok h b e so_far =
    let from = unchanged (step acc) (read g ls) next mid e in
    fold_goes_on g steps acc next ls from.0 mid total ok (λ xs. h acc from.0 xs ∙ ap (λ (b : _). steps b xs) from.2) b from.1 so_far
