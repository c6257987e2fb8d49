use Rattle.std.proofs.Common.{refl, sym, ◌∙◌}
use Rattle.sql_grammar.specs.Grammar.{many}
use Rattle.sql_grammar.specs.Reading.{read}
use Rattle.sql_grammar.specs.Answers.{folded}
use Rattle.sql_ast.specs.GrammarKeys.{rule, with_rule, with_rules}
use Rattle.sql_read.specs.Seen.{seen}
use Rattle.sql_parse_columns.specs.Decided.{rules_decided}
use Rattle.sql_parse_columns.proofs.Folds.{shorter, with_next}
use Rattle.sql_parse_columns.proofs.foreign_key.rules.Goals as goal

pub rules-smaller : goal.rules-smaller
rules-smaller c = shorter rule (with_rule c.rules.ruled) (seen c.rules.rest) c.rule.new.words (seen c.in-Ok.read) rules_decided c.in-Ok.ensures

pub rules-preserved : goal.rules-preserved
rules-preserved c =
    with_next rule with_rule with_rules c.rules.ruled c.rule.new.words (seen c.rules.rest) (seen c.in-Ok.read) (folded with_rules c.args.words (read (many rule) (seen c.args.input)))
    rules_decided (λ b a xs. refl) (sym c.at_rule.ensures ∙ c.rules-test.true) c.in-Ok.ensures c.rules.invariant
