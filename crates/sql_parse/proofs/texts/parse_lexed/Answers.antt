use Rattle.sql_ast.specs.Grammar.{statement}
use Rattle.sql_read.specs.Seen.{seen, stop_of}
use Rattle.sql_parse.proofs.Parsed.{whole_stop, good_is, fault_is}
use Rattle.sql_parse.proofs.texts.parse_lexed.Goals as goal

pub told-requires-clause-stop : goal.told-requires-clause-stop
told-requires-clause-stop c = whole_stop statement (seen c.of.result) (stop_of c.in-Err.fault) c.in-Err.ensures

pub returns-in-Ok : goal.returns-in-Ok
returns-in-Ok c = good_is c.args.text.now (seen c.of.result) c.in-Ok.statement c.of.ensures c.in-Ok.ensures

pub returns-in-Err : goal.returns-in-Err
returns-in-Err c = fault_is c.args.text.now (seen c.of.result) c.told.result (stop_of c.in-Err.fault) c.of.ensures c.in-Err.ensures c.told.ensures
