use Rattle.std.proofs.Common.{◌≡◌, rules, true, [], ◌∷◌, ◌++◌, ◌&&◌, sym, ◌∙◌}
use Rattle.sql_grammar.specs.Grammar.{Grammar, many}
use Rattle.sql_grammar.specs.Rules.{sign_of, listed, ◌⊳◌}
use Rattle.sql_grammar.specs.Reading.{read, first}
use Rattle.sql_grammar.specs.Checks.{one_token_decides, all_apart, extends_by}
use Rattle.sql_grammar.proofs.Bits.{and_true}
use Rattle.sql_grammar.proofs.Loops.{fewer, goes_on}
use Rattle.sql_read.specs.Seen.{seen}
use Rattle.sql_read.proofs.rule.listed.Goals as goal

comma_decides : {A : Type 0} (r : Grammar A) → one_token_decides (listed r) ≡ true → one_token_decides (many (sign_of 44 ⊳ r)) ≡ true
comma_decides r ok =
    let both = and_true (one_token_decides r) (one_token_decides (many (sign_of 44 ⊳ r)) && all_apart (extends_by r) (first (many (sign_of 44 ⊳ r)))) ok in
    (and_true (one_token_decides (many (sign_of 44 ⊳ r))) (all_apart (extends_by r) (first (many (sign_of 44 ⊳ r)))) both.1).0

pub values-smaller : goal.values-smaller
values-smaller g c = fewer (sign_of 44 ⊳ g.I.Item.rule) (seen c.values.rest) c.in-Ok-next_item.read.0 (seen c.in-Ok-next_item.read.1) (comma_decides g.I.Item.rule g.met.I.Item.decided) c.in-Ok-next_item.ensures

pub values-preserved : goal.values-preserved
values-preserved g c =
    let e : c.push-in-values.new.self ≡ c.values.values ++ c.in-Ok-next_item.read.0 ∷ [] = search rules in
    rw e (goes_on (sign_of 44 ⊳ g.I.Item.rule) c.values.values (seen c.values.rest) c.in-Ok-next_item.read.0 (seen c.in-Ok-next_item.read.1) (read (listed g.I.Item.rule) (seen c.args.input)) (comma_decides g.I.Item.rule g.met.I.Item.decided) (sym c.at_sign.ensures ∙ c.values-test.true) c.in-Ok-next_item.ensures c.values.invariant)
