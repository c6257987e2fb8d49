-- How a text reads as a statement.
use Rattle.std.specs.Prelude.{◌≡◌, ℕ, true, List, [], ◌∷◌, decimal}
use Rattle.std.specs.Str.{IsUtf8}
use Rattle.sql_lex.specs.Texts.{Reading, sentence, syntax_error, name_too_long, ReadsAs, reading_of, lexemes}
use Rattle.sql_grammar.specs.Judging.{verdict_of}
use Rattle.dd_errors.specs.Errors.{ErrorValue}
use Rattle.sql_ast.specs.declared.statement.Statement.{Statement}
use Rattle.sql_ast.specs.declared.statement.Statement.TheVariants.{Bad}
use Rattle.sql_ast.specs.Grammar.{statement}
use Rattle.sql_ast.specs.Names.{says_names}

-- 1064 at a byte, or 1059 with the name
abbrev pub statement_read : Reading Statement → Statement
statement_read (sentence s) = s
statement_read (syntax_error at) = Bad (record { number = 1064; args = decimal at ∷ [] })
statement_read (name_too_long name) = Bad (record { number = 1059; args = name ∷ [] })

-- the text reads as the statement
abbrev pub Reads : List ℕ → Statement → Type 0
Reads text s = (reading : Reading Statement) × ReadsAs statement text reading × (s ≡ statement_read reading)

-- what the plain reader finds
abbrev pub plain_reading : List ℕ → Reading Statement
plain_reading text = reading_of text (verdict_of statement (lexemes text))

-- the statement that the plain reader finds
abbrev pub plainly_read : List ℕ → Statement
plainly_read text = statement_read (plain_reading text)

-- each text reads as what the plain reader finds
abbrev pub EachReads : Type 0
EachReads = (text : List ℕ) → Reads text (plainly_read text)

-- no text reads as two statements
abbrev pub EachReadsOnce : Type 0
EachReadsOnce = (text : List ℕ) (a b : Statement) → Reads text a → Reads text b → a ≡ b

-- what some text reads as says names where it makes a schema, a table or the current schema
abbrev pub EachReadSaysNames : Type 0
EachReadSaysNames = (text : List ℕ) (s : Statement) → IsUtf8 text → Reads text s → says_names s ≡ true
