-- Where a rule stopped is the first fault.
use Rattle.std.proofs.Common.{◌≡◌, ℕ, Bool, true, false, List, [], ◌∷◌, Option, Some, None, Err, inl, inr, refl, sym, subst}
use Rattle.sql_grammar.specs.Lexemes.{Lexeme}
use Rattle.sql_grammar.specs.Grammar.{Grammar}
use Rattle.sql_grammar.specs.Reading.{Stop, read}
use Rattle.sql_grammar.specs.Checks.{one_token_decides, has_examples}
use Rattle.sql_grammar.specs.Answers.{Stops}
use Rattle.sql_grammar.proofs.Judged.{is_faulty, is_too_long, long_stop}
use Rattle.sql_parse_parts.specs.declared.parse_fault.ParseFault.{ParseFault}
use Rattle.sql_parse_parts.specs.Faults.{Tells, fault_at}
use Rattle.sql_parse_columns.specs.Fronts.{IsFirstFault}

at_stop : {A : Type 0} (g : Grammar A) → one_token_decides g ≡ true → has_examples g ≡ true → (text : List ℕ) (ls rest : List Lexeme) (long : Bool) → read g ls ≡ Err (record { rest = rest; long = long }) → IsFirstFault g text ls (fault_at text rest long)
at_stop g d x text ls rest false r = (rest, is_faulty g ls rest d x r, refl)
at_stop g d x text ls [] true r = absurd (long_stop g ls (record { rest = []; long = true }) r refl)
at_stop g d x text ls (l ∷ rest) true r = (l, rest, is_too_long g ls l rest d x (long_stop g ls (record { rest = l ∷ rest; long = true }) r refl) r, refl)

pub first_fault : {A : Type 0} (g : Grammar A) → one_token_decides g ≡ true → has_examples g ≡ true → (text : List ℕ) (ls : List Lexeme) (fault : ParseFault) (stop : Option Stop) → Tells fault text stop → Stops stop (read g ls) → IsFirstFault g text ls fault
first_fault g d x text ls fault None t s = subst (IsFirstFault g text ls) (sym t) tt
first_fault g d x text ls fault (Some stop) (inl t) s = subst (IsFirstFault g text ls) (sym t) tt
first_fault g d x text ls fault (Some stop) (inr t) s = subst (IsFirstFault g text ls) (sym t) (at_stop g d x text ls stop.rest stop.long s)
