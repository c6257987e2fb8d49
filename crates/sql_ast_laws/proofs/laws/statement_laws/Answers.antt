use Rattle.std.proofs.Common.{◌∙◌, ap, sym}
use Rattle.sql_ast.specs.Reads.{statement_read}
use Rattle.sql_ast_laws.proofs.Checks.{decided, shown}
use Rattle.sql_ast_laws.proofs.laws.statement_laws.Goals as goal

pub reading_laws-requires-clause-decided : goal.reading_laws-requires-clause-decided
reading_laws-requires-clause-decided c = decided

pub reading_laws-requires-clause-shown : goal.reading_laws-requires-clause-shown
reading_laws-requires-clause-shown c = shown

pub returns-clause-decided : goal.returns-clause-decided
returns-clause-decided c = decided

pub returns-clause-shown : goal.returns-clause-shown
returns-clause-shown c = shown

pub returns-clause-once : goal.returns-clause-once
returns-clause-once c = λ text a b ra rb. ra.2 ∙ ap statement_read (c.reading_laws.ensures.once text ra.0 rb.0 ra.1 rb.1) ∙ sym rb.2
