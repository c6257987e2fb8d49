use Rattle.dict_flight_laws.proofs.Commits.{may_commit, committed}
use Rattle.dict_flight_laws.proofs.laws.plans_go_on.Goals as goal

pub returns-clause-may_commit : goal.returns-clause-may_commit
returns-clause-may_commit c = λ s store wanted before after p plan batch ready old writes. may_commit s store wanted before after plan batch p ready old writes

pub returns-clause-committed : goal.returns-clause-committed
returns-clause-committed c = λ s t store grown wanted before after p plan ready old kept. committed s store wanted before after plan t grown kept p ready old
