use Rattle.std.proofs.Common.{◌≡◌, ℕ, List, Option, length, sym, ap, subst, ◌∙◌}
use Rattle.std.specs.List.{All}
use Rattle.sql_lex.specs.declared.token.Token.{Token}
use Rattle.sql_lex.specs.Spans.{IsSpan, InOrder}
use Rattle.sql_lex.specs.Lexing.{tokens_of}
use Rattle.sql_lex.proofs.Lie.{tokens_lie, tokens_in_order}
use Rattle.sql_lex.proofs.lex.tokens_before.Goals as goal

pub returns-in-Ok-clause-spans : goal.returns-in-Ok-clause-spans
returns-in-Ok-clause-spans c =
    subst (λ (ts : List Token). All (IsSpan (length c.args.text.now)) ts) (sym c.from_vec.ensures)
    (tokens_lie c.args.text.now (c.in-Ok.tokens.items, c.in-Ok.bad) (c.in-Ok.ensures ∙ ap tokens_of c.bytes_of.ensures.bytes))

pub returns-in-Ok-clause-order : goal.returns-in-Ok-clause-order
returns-in-Ok-clause-order c =
    subst (λ (ts : List Token). InOrder 0 ts) (sym c.from_vec.ensures)
    (tokens_in_order c.args.text.now (c.in-Ok.tokens.items, c.in-Ok.bad) (c.in-Ok.ensures ∙ ap tokens_of c.bytes_of.ensures.bytes))
