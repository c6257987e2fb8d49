-- The tokens that are still to be read, and where reading stopped.
use Rattle.std.specs.Prelude.{◌++◌, [], ◌∷◌, true, false, List, map, Option, Some, None, if◌then◌else◌}
use Rattle.sql_grammar.specs.Lexemes.{Lexeme, word, number, quoted, string, sign, broken}
use Rattle.sql_grammar.specs.Reading.{Stop}
use Rattle.sql_lex.specs.Strings.{string_meaning}
use Rattle.sql_lex.specs.Texts.{lexeme_of}
use Rattle.sql_read.specs.declared.input.Input.{Input}
use Rattle.sql_read.specs.declared.content.Content.{Content}
use Rattle.sql_read.specs.declared.content.Content.TheVariants as contents
use Rattle.sql_read.specs.declared.fault.ReadFault.{ReadFault}
use Rattle.sql_read.specs.declared.fault.ReadFault.TheVariants.{Memory, Syntax, TooLong}

-- the tokens that are left; a bad place behind them is one last lexeme that no rule takes
unfoldable pub seen : Input → List Lexeme
seen input = map (lexeme_of input.text.now) input.tokens.now ++ (if input.broken then broken ∷ [] else [])

-- a token without where it lies in memory
abbrev pub content_seen : Content → Lexeme
content_seen (contents.Word w) = word w.now
content_seen (contents.Number w) = number w.now
content_seen (contents.Quoted w) = quoted w.now
content_seen (contents.Text w) = string (string_meaning w.now)
content_seen (contents.Sign c) = sign c
content_seen contents.Broken = broken

-- where reading stopped; want of memory says nothing
abbrev pub stop_of : ReadFault → Option Stop
stop_of Memory = None
stop_of (Syntax rest) = Some (record { rest = seen rest; long = false })
stop_of (TooLong rest) = Some (record { rest = seen rest; long = true })
