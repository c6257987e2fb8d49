use Rattle.std.proofs.Common.{◌≡◌, length}
use Rattle.sql_grammar.specs.Grammar.{many}
use Rattle.sql_grammar.specs.Reading.{read}
use Rattle.sql_grammar.specs.Answers.{folded}
use Rattle.sql_ast.specs.GrammarColumns.{attribute, with_attributes}
use Rattle.sql_read.specs.Seen.{seen}
use Rattle.sql_parse_columns.proofs.attribute.attributes.Given as goal

abbrev pub invariant-attributes : goal.invariant-attributes
invariant-attributes l = folded with_attributes l.words (read (many attribute) (seen l.rest)) ≡ folded with_attributes l.fn.column (read (many attribute) (seen l.fn.input))

abbrev pub decreases-attributes : goal.decreases-attributes
decreases-attributes l = length (seen l.rest)
