use Rattle.std.proofs.Common.{◌≡◌, length}
use Rattle.sql_grammar.specs.Grammar.{many}
use Rattle.sql_grammar.specs.Reading.{read}
use Rattle.sql_grammar.specs.Answers.{folded}
use Rattle.sql_ast.specs.GrammarKeys.{rule, with_rules}
use Rattle.sql_read.specs.Seen.{seen}
use Rattle.sql_parse_columns.proofs.foreign_key.rules.Given as goal

abbrev pub invariant-rules : goal.invariant-rules
invariant-rules l = folded with_rules l.ruled (read (many rule) (seen l.rest)) ≡ folded with_rules l.fn.words (read (many rule) (seen l.fn.input))

abbrev pub decreases-rules : goal.decreases-rules
decreases-rules l = length (seen l.rest)
