use Rattle.std.proofs.Common.{◌≡◌, length}
use Rattle.sql_grammar.specs.Grammar.{many}
use Rattle.sql_grammar.specs.Reading.{read}
use Rattle.sql_grammar.specs.Answers.{with_front}
use Rattle.sql_read.specs.Seen.{seen}
use Rattle.sql_read.proofs.rule.many.Given as goal

abbrev pub invariant-values : goal.invariant-values
invariant-values g l = with_front l.values (read (many g.R.Rule.rule) (seen l.rest)) ≡ read (many g.R.Rule.rule) (seen l.fn.input)

abbrev pub decreases-values : goal.decreases-values
decreases-values g l = length (seen l.rest)
