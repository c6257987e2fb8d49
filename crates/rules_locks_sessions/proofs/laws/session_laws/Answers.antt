use Rattle.rules_locks_sessions.proofs.Events.{begun, first, more, conflict, told, planned, answered, given_up, commits, released}
use Rattle.rules_locks_sessions.proofs.laws.session_laws.Goals as goal

pub returns-clause-begun : goal.returns-clause-begun
returns-clause-begun c = begun

pub returns-clause-first : goal.returns-clause-first
returns-clause-first c = first

pub returns-clause-more : goal.returns-clause-more
returns-clause-more c = more

pub returns-clause-conflict : goal.returns-clause-conflict
returns-clause-conflict c = conflict

pub returns-clause-told : goal.returns-clause-told
returns-clause-told c = told

pub returns-clause-planned : goal.returns-clause-planned
returns-clause-planned c = planned

pub returns-clause-answered : goal.returns-clause-answered
returns-clause-answered c = answered

pub returns-clause-given_up : goal.returns-clause-given_up
returns-clause-given_up c = given_up

pub returns-clause-committed : goal.returns-clause-committed
returns-clause-committed c = commits

pub returns-clause-released : goal.returns-clause-released
returns-clause-released c = released
