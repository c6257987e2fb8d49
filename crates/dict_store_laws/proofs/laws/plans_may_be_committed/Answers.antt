use Rattle.dict_store_laws.proofs.Commits.{may_exchange, may_create}
use Rattle.dict_store_laws.proofs.laws.plans_may_be_committed.Goals as goal

pub returns-clause-exchange : goal.returns-clause-exchange
returns-clause-exchange c = λ s store work next planned batch kept may. may_exchange s store work next kept planned batch may

pub returns-clause-create : goal.returns-clause-create
returns-clause-create c = λ s store work next item file planned batch kept may. may_create s store work next kept planned batch item file may
