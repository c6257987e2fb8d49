use Rattle.std.proofs.Common.{Ok, Err, ℕ, List, Result}
use Rattle.sql_lex.specs.Texts.{sentence}
use Rattle.sql_ast.specs.declared.statement.Statement.{Statement}
use Rattle.sql_ast.specs.Reads.{Reads}
use Rattle.sql_parse_parts.specs.declared.parse_fault.ParseFault.{ParseFault}
use Rattle.std.specs.Prelude.{IfOk}
use Rattle.sql_parse.specs.Parsing.{IsReading}
use Rattle.sql_parse.proofs.Parsed.{is_reading, reads_so}
use Rattle.sql_parse.proofs.texts.parse.Goals as goal

pub returns-in-Ok-clause-reading : goal.returns-in-Ok-clause-reading
returns-in-Ok-clause-reading c = is_reading c.statement_laws.ensures.decided c.statement_laws.ensures.shown c.args.text.now c.parse_lexed.result c.parse_lexed.ensures

statement_reads : (text : List ℕ) (r : Result Statement ParseFault) → IsReading r text → IfOk r (λ s. Reads text s)
statement_reads text (Ok s) h = reads_so text (sentence s) h
statement_reads text (Err fault) h = tt

pub returns-in-Ok-clause-reads : goal.returns-in-Ok-clause-reads
returns-in-Ok-clause-reads c = statement_reads c.args.text.now c.parse_lexed.result (is_reading c.statement_laws.ensures.decided c.statement_laws.ensures.shown c.args.text.now c.parse_lexed.result c.parse_lexed.ensures)
