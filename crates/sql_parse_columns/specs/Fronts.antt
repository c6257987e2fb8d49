-- A rule that is read from a token of a text on, as far as it goes.
use Rattle.std.specs.Prelude.{◌≡◌, ℕ, List, length, drop, Result, Ok, Err, ◌⊎◌}
use Rattle.sql_grammar.specs.Lexemes.{Lexeme, content}
use Rattle.sql_grammar.specs.Grammar.{Grammar}
use Rattle.sql_grammar.specs.Judging.{IsFaultyAt, IsTooLongAt}
use Rattle.sql_grammar.specs.Reading.{Stop}
use Rattle.sql_lex.specs.Texts.{lexemes, place_of}
use Rattle.sql_parse_parts.specs.declared.parse_fault.ParseFault.{ParseFault}
use Rattle.sql_parse_parts.specs.declared.parse_fault.ParseFault.TheVariants.{Syntax, TooLong, Memory}
use Rattle.sql_parse_parts.specs.Faults.{fault_at}

-- the rule gave the value and stopped before the token of this number, or the fault tells where reading stopped
abbrev pub IsFrontTo : {A : Type 0} → List ℕ → Result (A × ℕ) ParseFault → Result (A × List Lexeme) Stop → Type 0
IsFrontTo text (Ok x) r = r ≡ Ok (x.0, drop x.1 (lexemes text))
IsFrontTo text (Err fault) r = (fault ≡ Memory) ⊎ ((s : Stop) × (r ≡ Err s) × (fault ≡ fault_at text s.rest s.long))

-- By the grammar alone: at the byte stands the first token with which no sentence goes on, or the text's end, if it comes
-- too early; or the name is the first that is too long.
abbrev pub IsFirstFault : {A : Type 0} → Grammar A → List ℕ → List Lexeme → ParseFault → Type 0
IsFirstFault g text ls (Syntax at) = (rest : List Lexeme) × IsFaultyAt g ls rest × (at ≡ place_of text (length rest))
IsFirstFault g text ls (TooLong name) = (l : Lexeme) × (rest : List Lexeme) × IsTooLongAt g ls l rest × (name ≡ content l)
IsFirstFault g text ls Memory = Unit {0}
