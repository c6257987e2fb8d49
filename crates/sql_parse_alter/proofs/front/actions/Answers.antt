use Rattle.std.proofs.Common.{◌≡◌, List, Ok, subst}
use Rattle.sql_grammar.specs.Lexemes.{Lexeme}
use Rattle.sql_grammar.specs.Grammar.{Says}
use Rattle.sql_grammar.specs.Rules.{listed}
use Rattle.sql_grammar.specs.Reading.{read}
use Rattle.sql_grammar.specs.Answers.{Stops}
use Rattle.sql_grammar.proofs.Reader.{sound}
use Rattle.sql_ast.specs.GrammarActions.{action}
use Rattle.sql_read.specs.Seen.{seen, stop_of}
use Rattle.sql_parse_parts.proofs.StopsOfRules.{stop_of_rule}
use Rattle.sql_parse_columns.proofs.FirstFaults.{first_fault}
use Rattle.sql_parse_alter.specs.Decided.{actions_decided, actions_shown}
use Rattle.sql_parse_alter.proofs.Told.{front_fault}
use Rattle.sql_parse_alter.proofs.front.actions.Goals as goal

pub told-requires-clause-stop : goal.told-requires-clause-stop
told-requires-clause-stop c = stop_of_rule (listed action) (seen c.from_token.result) (stop_of c.in-Err.fault) c.in-Err.ensures

pub returns-in-Ok-clause-exact : goal.returns-in-Ok-clause-exact
returns-in-Ok-clause-exact c =
    let after : List Lexeme = seen c.in-Ok.field-0-1 in
    (after, subst (λ (ls : List Lexeme). read (listed action) ls ≡ Ok (c.in-Ok.list, after)) c.from_token.ensures c.in-Ok.ensures)

pub returns-in-Ok-clause-says : goal.returns-in-Ok-clause-says
returns-in-Ok-clause-says c =
    let after : List Lexeme = seen c.in-Ok.field-0-1 in
    (after, subst (λ (ls : List Lexeme). Says (listed action) ls after c.in-Ok.list) c.from_token.ensures (sound (listed action) (seen c.from_token.result) c.in-Ok.list after c.in-Ok.ensures))

pub returns-in-Err-clause-exact : goal.returns-in-Err-clause-exact
returns-in-Err-clause-exact c =
    front_fault c.args.text.now c.told.result (stop_of c.in-Err.fault) (read (listed action) _) c.told.ensures
    (subst (λ (ls : List Lexeme). Stops (stop_of c.in-Err.fault) (read (listed action) ls)) c.from_token.ensures c.in-Err.ensures)

pub returns-in-Err-clause-fault : goal.returns-in-Err-clause-fault
returns-in-Err-clause-fault c =
    first_fault (listed action) actions_decided actions_shown c.args.text.now _ c.told.result (stop_of c.in-Err.fault) c.told.ensures
    (subst (λ (ls : List Lexeme). Stops (stop_of c.in-Err.fault) (read (listed action) ls)) c.from_token.ensures c.in-Err.ensures)
