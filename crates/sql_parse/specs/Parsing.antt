-- What the parser answers for a text.
use Rattle.std.specs.Prelude.{◌≡◌, ℕ, false, List, [], ◌∷◌, Result, Ok, Err}
use Rattle.sql_grammar.specs.Lexemes.{Lexeme}
use Rattle.sql_grammar.specs.Reading.{Stop}
use Rattle.sql_lex.specs.Texts.{sentence, syntax_error, name_too_long, ReadsAs}
use Rattle.sql_ast.specs.declared.statement.Statement.{Statement}
use Rattle.sql_ast.specs.Grammar.{statement}
use Rattle.sql_ast.specs.Reads.{plain_reading}
use Rattle.sql_parse_parts.specs.declared.parse_fault.ParseFault.{ParseFault}
use Rattle.sql_parse_parts.specs.declared.parse_fault.ParseFault.TheVariants.{Syntax, TooLong, Memory}

-- the value where no token is left, and else a stop at the first that is
abbrev pub all_read : {A : Type 0} → A → List Lexeme → Result A Stop
all_read v [] = Ok v
all_read v (l ∷ ls) = Err (record { rest = l ∷ ls; long = false })

-- what was read, where it is all of the tokens
abbrev pub whole : {A : Type 0} → Result (A × List Lexeme) Stop → Result A Stop
whole (Ok x) = all_read x.0 x.1
whole (Err s) = Err s

-- a statement, a byte or a name as the plain reader finds it; want of memory says nothing
abbrev pub IsPlainReading : Result Statement ParseFault → List ℕ → Type 0
IsPlainReading (Ok s) text = plain_reading text ≡ sentence s
IsPlainReading (Err (Syntax at)) text = plain_reading text ≡ syntax_error at
IsPlainReading (Err (TooLong name)) text = plain_reading text ≡ name_too_long name
IsPlainReading (Err Memory) text = Unit {0}

-- a statement, a byte or a name as which the text reads by the grammar, whatever reads it
abbrev pub IsReading : Result Statement ParseFault → List ℕ → Type 0
IsReading (Ok s) text = ReadsAs statement text (sentence s)
IsReading (Err (Syntax at)) text = ReadsAs statement text (syntax_error at)
IsReading (Err (TooLong name)) text = ReadsAs statement text (name_too_long name)
IsReading (Err Memory) text = Unit {0}
