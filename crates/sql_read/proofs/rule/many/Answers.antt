use Rattle.std.proofs.Common.{◌≡◌, rules, [], ◌∷◌, ◌++◌, sym, ◌∙◌}
use Rattle.sql_grammar.specs.Grammar.{many}
use Rattle.sql_grammar.specs.Reading.{read}
use Rattle.sql_grammar.proofs.Loops.{fewer, goes_on}
use Rattle.sql_read.specs.Seen.{seen}
use Rattle.sql_read.proofs.rule.many.Goals as goal

pub values-smaller : goal.values-smaller
values-smaller g c = fewer g.R.Rule.rule (seen c.values.rest) c.in-Ok.read.0 (seen c.in-Ok.read.1) g.met.R.Rule.decided c.in-Ok.ensures

pub values-preserved : goal.values-preserved
values-preserved g c =
    let e : c.push.new.self ≡ c.values.values ++ c.in-Ok.read.0 ∷ [] = search rules in
    rw e (goes_on g.R.Rule.rule c.values.values (seen c.values.rest) c.in-Ok.read.0 (seen c.in-Ok.read.1) (read (many g.R.Rule.rule) (seen c.args.input)) g.met.R.Rule.decided (sym c.starts.ensures ∙ c.values-test.true) c.in-Ok.ensures c.values.invariant)
