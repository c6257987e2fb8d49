use Rattle.std.proofs.Common.{List, subst}
use Rattle.sql_grammar.specs.Lexemes.{Lexeme}
use Rattle.sql_grammar.specs.Grammar.{Says}
use Rattle.sql_grammar.proofs.Reader.{sound}
use Rattle.sql_ast.specs.GrammarViews.{select}
use Rattle.sql_read.specs.Seen.{seen, stop_of}
use Rattle.sql_parse_parts.proofs.StopsOfRules.{stop_of_rule}
use Rattle.sql_parse_query.proofs.query.select.Goals as goal

pub told-requires-clause-stop : goal.told-requires-clause-stop
told-requires-clause-stop c = stop_of_rule select (seen c.from_token.result) (stop_of c.in-Err.fault) c.in-Err.ensures

pub returns-in-Ok-clause-says : goal.returns-in-Ok-clause-says
returns-in-Ok-clause-says c =
    let after : List Lexeme = seen c.in-Ok.field-0-1 in
    (after, subst (λ (ls : List Lexeme). Says select ls after c.in-Ok.query) c.from_token.ensures (sound select (seen c.from_token.result) c.in-Ok.query after c.in-Ok.ensures))
