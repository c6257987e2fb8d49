use Rattle.dict_flight_laws.proofs.Moves.{begins, plans, gives_up, rolls_back, rolls_back_made, ends}
use Rattle.dict_flight_laws.proofs.laws.sessions_begin_and_end.Goals as goal

pub returns-clause-begins : goal.returns-clause-begins
returns-clause-begins c = begins

pub returns-clause-plans : goal.returns-clause-plans
returns-clause-plans c = plans

pub returns-clause-gives_up : goal.returns-clause-gives_up
returns-clause-gives_up c = gives_up

pub returns-clause-rolls_back : goal.returns-clause-rolls_back
returns-clause-rolls_back c = rolls_back

pub returns-clause-rolls_back_made : goal.returns-clause-rolls_back_made
returns-clause-rolls_back_made c = rolls_back_made

pub returns-clause-ends : goal.returns-clause-ends
returns-clause-ends c = ends
