use Rattle.sql_text_tests.proofs.Spelled.{pieces_spelled, statements_spelled, elements_spelled, shown_spelled}
use Rattle.sql_text_tests.proofs.computed.texts_are_spelled.Goals as goal

pub returns-clause-pieces : goal.returns-clause-pieces
returns-clause-pieces c = pieces_spelled

pub returns-clause-statements : goal.returns-clause-statements
returns-clause-statements c = statements_spelled

pub returns-clause-elements : goal.returns-clause-elements
returns-clause-elements c = elements_spelled

pub returns-clause-shown : goal.returns-clause-shown
returns-clause-shown c = shown_spelled
