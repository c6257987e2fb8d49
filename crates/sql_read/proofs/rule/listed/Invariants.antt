use Rattle.std.proofs.Common.{◌≡◌, length}
use Rattle.sql_grammar.specs.Grammar.{many}
use Rattle.sql_grammar.specs.Rules.{sign_of, listed, ◌⊳◌}
use Rattle.sql_grammar.specs.Reading.{read}
use Rattle.sql_grammar.specs.Answers.{with_front}
use Rattle.sql_read.specs.Seen.{seen}
use Rattle.sql_read.proofs.rule.listed.Given as goal

abbrev pub invariant-values : goal.invariant-values
invariant-values g l = with_front l.values (read (many (sign_of 44 ⊳ g.I.Item.rule)) (seen l.rest)) ≡ read (listed g.I.Item.rule) (seen l.fn.input)

abbrev pub decreases-values : goal.decreases-values
decreases-values g l = length (seen l.rest)
