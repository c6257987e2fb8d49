use Rattle.std.proofs.Common.{List, subst, ◌≡◌, length, false, refl}
use Rattle.sql_grammar.specs.Lexemes.{Lexeme}
use Rattle.sql_grammar.specs.Reading.{null, read}
use Rattle.sql_grammar.specs.Answers.{Stops}
use Rattle.sql_ast.specs.GrammarParts.{index_or_key}
use Rattle.sql_ast.specs.GrammarColumns.{named_column}
use Rattle.sql_ast.specs.GrammarKeys.{primary_key, unique_key, plain_key, foreign_key, constraint_key, key, element}
use Rattle.sql_read.specs.Seen.{seen, stop_of}
use Rattle.sql_parse_parts.proofs.StopsOfRules.{stop_of_rule}
use Rattle.sql_parse_columns.specs.Decided.{element_decided, element_shown}
use Rattle.sql_parse_columns.proofs.FirstFaults.{first_fault}
use Rattle.sql_parse_columns.proofs.Behind.{StopsBefore, stops_before}
use Rattle.sql_parse_columns.proofs.front.element.Goals as goal

some_token : null element ≡ false
unfolding element named_column key constraint_key primary_key unique_key plain_key foreign_key index_or_key
some_token = refl

stopped : (c : goal.After-saturating_sub) → StopsBefore element c.args.text.now (length c.args.tokens.now) c.args.from c.saturating_sub.result c.in-Ok.element
stopped c =
    stops_before element some_token c.args.text.now c.args.tokens.now c.args.from c.saturating_sub.result c.in-Ok.element (seen c.in-Ok.rest) c.requires.tokens c.requires.within
    (rw (← c.left.ensures) c.saturating_sub.ensures) (rw (← c.from_token.ensures) c.in-Ok.ensures)

pub told-requires-clause-stop : goal.told-requires-clause-stop
told-requires-clause-stop c = stop_of_rule element (seen c.from_token.result) (stop_of c.in-Err.fault) c.in-Err.ensures

pub returns-in-Ok-clause-exact : goal.returns-in-Ok-clause-exact
returns-in-Ok-clause-exact c = (stopped c).exact

pub returns-in-Ok-clause-says : goal.returns-in-Ok-clause-says
returns-in-Ok-clause-says c = (stopped c).says

pub returns-in-Ok-clause-behind : goal.returns-in-Ok-clause-behind
returns-in-Ok-clause-behind c = ((stopped c).more, (stopped c).within)

pub returns-in-Err-clause-fault : goal.returns-in-Err-clause-fault
returns-in-Err-clause-fault c =
    first_fault element element_decided element_shown c.args.text.now _ c.told.result (stop_of c.in-Err.fault) c.told.ensures
    (subst (λ (ls : List Lexeme). Stops (stop_of c.in-Err.fault) (read element ls)) c.from_token.ensures c.in-Err.ensures)
