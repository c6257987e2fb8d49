-- One test for each word that may come first.
use Rattle.std.proofs.Common.{◌≡◌, Bool, true, false, ◌||◌, List, [], ◌∷◌, refl}
use Rattle.sql_grammar.specs.Lexemes.{Lexeme, Terminal, takes, takes_some, begins}

-- the next token is one of two or more
pub begins_more : (s t : Terminal) (ts : List Terminal) (ls : List Lexeme) → begins (s ∷ t ∷ ts) ls ≡ (begins (s ∷ []) ls || begins (t ∷ ts) ls)
begins_more s t ts [] = refl
begins_more s t ts (l ∷ ls) = go (takes s l) (takes t l || takes_some ts l)
  where
    go : (a b : Bool) → (a || b) ≡ ((a || false) || b)
    go true b = refl
    go false b = refl
