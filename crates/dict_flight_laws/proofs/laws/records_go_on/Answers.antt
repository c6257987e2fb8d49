use Rattle.dict_flight_laws.proofs.Moves.{may_replay, replayed, may_remove, removed}
use Rattle.dict_flight_laws.proofs.laws.records_go_on.Goals as goal

pub returns-clause-may_replay : goal.returns-clause-may_replay
returns-clause-may_replay c = λ s store wanted before after texts item items old. may_replay s store wanted before after texts item items old

pub returns-clause-replayed : goal.returns-clause-replayed
returns-clause-replayed c = λ s t store grown wanted before after texts item items old kept. replayed s store wanted before after texts item items old t grown kept

pub returns-clause-may_remove : goal.returns-clause-may_remove
returns-clause-may_remove c = λ s store wanted before after texts item items old. may_remove s store wanted before after texts item items old

pub returns-clause-removed : goal.returns-clause-removed
returns-clause-removed c = λ s t store grown wanted before after texts item items old kept. removed s store wanted before after texts item items old t grown kept
