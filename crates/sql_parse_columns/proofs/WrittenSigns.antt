-- A sign that is read has itself as its value.
use Rattle.std.proofs.Common.{◌≡◌, ℕ, Bool, true, false, cond, List, [], ◌∷◌, Ok, Err, refl, ap}
use Rattle.std.specs.Prelude.{◌==◌}
use Rattle.std.proofs.lemmas.Bool.{eqb-true}
use Rattle.sql_grammar.specs.Lexemes.{Lexeme, word, number, quoted, string, sign, broken, mark, takes, is_long}
use Rattle.sql_grammar.specs.Rules.{sign_of}
use Rattle.sql_grammar.specs.Reading.{read, read_one, ◌>>=◌}
use Rattle.sql_grammar.proofs.Steady.{Read}

abbrev as_read : Bool → ℕ → List Lexeme → Read (List ℕ)
as_read b c ls = cond b (Ok (c ∷ [], ls)) (Err (record { rest = sign c ∷ ls; long = false }))

abbrev without_value : Read (List ℕ) → Read (Unit {0})
without_value r = r >>= λ x. Ok (tt, x.1)

abbrev behind : Read (Unit {0}) → List Lexeme
behind (Ok x) = x.1
behind (Err s) = s.rest

pub sign_with_itself : (m : ℕ) (ls rest : List Lexeme) → read (sign_of m) ls ≡ Ok (tt, rest) → read_one (mark m) ls ≡ Ok (m ∷ [], rest)
unfolding takes is_long
sign_with_itself m [] rest e = absurd cc
sign_with_itself m (word w ∷ ls) rest e = absurd cc
sign_with_itself m (number w ∷ ls) rest e = absurd cc
sign_with_itself m (quoted w ∷ ls) rest e = absurd cc
sign_with_itself m (string w ∷ ls) rest e = absurd cc
sign_with_itself m (broken ∷ ls) rest e = absurd cc
sign_with_itself m (sign c ∷ ls) rest e = go (c == m) refl e
  where
    go : (b : Bool) → (c == m) ≡ b → without_value (as_read b c ls) ≡ Ok (tt, rest) → as_read b c ls ≡ Ok (m ∷ [], rest)
    go true h k = let s = eqb-true c m h in let t : ls ≡ rest = ap behind k in rw (s, t) refl
    go false h k = absurd cc
