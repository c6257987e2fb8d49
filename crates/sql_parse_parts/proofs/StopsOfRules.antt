-- A stop for the length of a name is at such a name.
use Rattle.std.proofs.Common.{List, [], ◌∷◌, Option, Some, None}
use Rattle.sql_grammar.specs.Lexemes.{Lexeme}
use Rattle.sql_grammar.specs.Grammar.{Grammar}
use Rattle.sql_grammar.specs.Reading.{Stop, read}
use Rattle.sql_grammar.specs.Answers.{Stops}
use Rattle.sql_grammar.proofs.Judged.{LongHead, long_stop}
use Rattle.sql_parse_parts.specs.Faults.{IsLongFirst, IsStopOfRule}

long_first : (ls : List Lexeme) → LongHead ls → IsLongFirst ls
long_first [] h = h
long_first (l ∷ ls) h = h

pub stop_of_rule : {A : Type 0} (g : Grammar A) (ls : List Lexeme) (o : Option Stop) → Stops o (read g ls) → IsStopOfRule o
stop_of_rule g ls None h = tt
stop_of_rule g ls (Some s) h = λ e. long_first s.rest (long_stop g ls s h e)
