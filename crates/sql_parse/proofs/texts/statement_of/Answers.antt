use Rattle.std.proofs.Common.{◌≡◌, ℕ, List, Result, Ok, Err, sym, subst}
use Rattle.std.specs.Prelude.{IfOk}
use Rattle.sql_lex.specs.Texts.{Reading, syntax_error, name_too_long, ReadsAs}
use Rattle.sql_ast.specs.declared.statement.Statement.{Statement}
use Rattle.sql_ast.specs.Grammar.{statement}
use Rattle.sql_ast.specs.Reads.{Reads, statement_read}
use Rattle.sql_parse_parts.specs.declared.parse_fault.ParseFault.{ParseFault}
use Rattle.sql_parse_parts.specs.declared.parse_fault.ParseFault.TheVariants.{Syntax, TooLong}
use Rattle.sql_parse.specs.Parsing.{IsReading}
use Rattle.sql_parse.proofs.Parsed.{reads_so}
use Rattle.sql_parse.proofs.texts.statement_of.Goals as goal

bad_reads : {E : Type 0} (text : List ℕ) (reading : Reading Statement) (r : Result Statement E) → ReadsAs statement text reading → IfOk r (λ s. s ≡ statement_read reading) → IfOk r (λ s. Reads text s)
bad_reads text reading (Ok s) h e = subst (Reads text) (sym e) (reads_so text reading h)
bad_reads text reading (Err fault) h e = e

pub returns-in-Err-Syntax-clause-reads : goal.returns-in-Err-Syntax-clause-reads
returns-in-Err-Syntax-clause-reads c =
    let reading : IsReading (Err (Syntax c.in-Err-Syntax.at)) c.args.text.now = subst (λ (f : ParseFault). IsReading (Err f) c.args.text.now) c.in-Err-Syntax.field-0-is c.in-Err-Syntax.ensures.reading in
    bad_reads c.args.text.now (syntax_error c.in-Err-Syntax.at) c.syntax_fault.result reading c.syntax_fault.ensures

pub returns-in-Err-TooLong-clause-reads : goal.returns-in-Err-TooLong-clause-reads
returns-in-Err-TooLong-clause-reads c =
    let reading : IsReading (Err (TooLong c.in-Err-TooLong.name)) c.args.text.now = subst (λ (f : ParseFault). IsReading (Err f) c.args.text.now) c.in-Err-TooLong.field-0-is c.in-Err-TooLong.ensures.reading in
    bad_reads c.args.text.now (name_too_long c.in-Err-TooLong.name) c.long_name_fault.result reading c.long_name_fault.ensures
