use Rattle.std.proofs.Common.{ℕ, ◌∙◌, ◌-◌, ap, sym, take}
use Rattle.rules_alter_statements.proofs.Last.{last_is, where_none}
use Rattle.rules_alter_statements.proofs.statements.last_of.Goals as goal

pub returns : goal.returns
returns c =
    last_is c.args.names c.pop.new.self.items c.pop.result (sym c.into_vec.ensures ∙ c.pop.ensures.items)
    (λ none. c.pop.ensures.rest ∙ ap (λ (n : ℕ). take (n - 1) c.into_vec.result.items) (where_none _ c.pop.result c.pop.ensures.cases none).0)
