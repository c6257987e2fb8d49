-- What the plain reader finds is how the tokens read; and no tokens read in two ways.
use Rattle.std.proofs.Common.{◌≡◌, Bool, true, false, List, [], ◌∷◌, Result, Ok, Err, refl}
use Rattle.sql_grammar.specs.Lexemes.{Lexeme}
use Rattle.sql_grammar.specs.Grammar.{Grammar}
use Rattle.sql_grammar.specs.Reading.{Stop, read}
use Rattle.sql_grammar.specs.Checks.{one_token_decides, has_examples}
use Rattle.sql_grammar.specs.Judging.{good, syntax_at, Reads, stopped_at, found}
use Rattle.sql_grammar.specs.Laws.{EachReads}
use Rattle.sql_grammar.proofs.Judged.{is_sentence, is_faulty, is_faulty_after, is_too_long, long_stop}

-- reading stopped
pub stop_reads : {A : Type 0} (g : Grammar A) → one_token_decides g ≡ true → has_examples g ≡ true → (ls rest : List Lexeme) (long : Bool) → read g ls ≡ Err (record { rest = rest; long = long }) → Reads g ls (stopped_at rest long)
stop_reads g ok al ls [] true e = absurd (long_stop g ls (record { rest = []; long = true }) e refl)
stop_reads g ok al ls [] false e = is_faulty g ls [] ok al e
stop_reads g ok al ls (l ∷ rest) true e = is_too_long g ls l rest ok al (long_stop g ls (record { rest = l ∷ rest; long = true }) e refl) e
stop_reads g ok al ls (l ∷ rest) false e = is_faulty g ls (l ∷ rest) ok al e

-- reading came to the end
pub good_reads : {A : Type 0} (g : Grammar A) → one_token_decides g ≡ true → (ls rest : List Lexeme) (v : A) → rest ≡ [] → read g ls ≡ Ok (v, rest) → Reads g ls (good v)
good_reads g ok ls rest v e r = is_sentence g ls v ok (rw e at r)

-- reading came to an end before the tokens did
pub more_reads : {A : Type 0} (g : Grammar A) → one_token_decides g ≡ true → (ls rest : List Lexeme) (v : A) → (rest ≡ [] → ⊥) → read g ls ≡ Ok (v, rest) → Reads g ls (syntax_at rest)
more_reads g ok ls [] v ne r = absurd (ne refl)
more_reads g ok ls (l ∷ rest) v ne r = is_faulty_after g ls v l rest ok r

found_reads : {A : Type 0} (g : Grammar A) → one_token_decides g ≡ true → has_examples g ≡ true → (ls : List Lexeme) (r : Result (A × List Lexeme) Stop) → read g ls ≡ r → Reads g ls (found r)
found_reads {A} g ok al ls (Ok x) e = at_rest x.0 x.1 e
  where
    at_rest : (v : A) (rest : List Lexeme) → read g ls ≡ Ok (v, rest) → Reads g ls (found (Ok (v, rest)))
    at_rest v [] h = is_sentence g ls v ok h
    at_rest v (l ∷ rest) h = is_faulty_after g ls v l rest ok h
found_reads g ok al ls (Err s) e = stop_reads g ok al ls s.rest s.long e

pub each_reads : {A : Type 0} (g : Grammar A) → one_token_decides g ≡ true → has_examples g ≡ true → EachReads g
each_reads g ok al ls = found_reads g ok al ls (read g ls) refl
