-- A fault that tells where a rule stopped.
use Rattle.std.proofs.Common.{List, ℕ, Option, Some, None, Result, Err, inl, inr}
use Rattle.sql_grammar.specs.Lexemes.{Lexeme}
use Rattle.sql_grammar.specs.Reading.{Stop}
use Rattle.sql_grammar.specs.Answers.{Stops}
use Rattle.sql_parse_parts.specs.declared.parse_fault.ParseFault.{ParseFault}
use Rattle.sql_parse_parts.specs.Faults.{Tells, IsFront}

pub front_fault : {A : Type 0} (text : List ℕ) (fault : ParseFault) (stop : Option Stop) (r : Result (A × List Lexeme) Stop) → Tells fault text stop → Stops stop r → IsFront {A = A} text (Err fault) r
front_fault text fault None r t s = inl t
front_fault text fault (Some stop) r (inl t) s = inl t
front_fault text fault (Some stop) r (inr t) s = inr (stop, s, t)
