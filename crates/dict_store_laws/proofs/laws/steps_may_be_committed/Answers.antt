use Rattle.dict_store_laws.proofs.Phases.{may_prepare, may_remove}
use Rattle.dict_store_laws.proofs.laws.steps_may_be_committed.Goals as goal

pub returns-clause-prepare : goal.returns-clause-prepare
returns-clause-prepare c = λ s store work item items batch kept may log. may_prepare s store work kept item items batch may log

pub returns-clause-remove : goal.returns-clause-remove
returns-clause-remove c = λ s store work item items finished batch kept may log. may_remove s store work kept item items finished batch may log
