use Rattle.ddl_log.proofs.Effects.{without_done, while_under, covered}
use Rattle.ddl_log.proofs.laws.record_among_others.Goals as goal

pub returns-clause-done : goal.returns-clause-done
returns-clause-done c = without_done

pub returns-clause-under : goal.returns-clause-under
returns-clause-under c = while_under

pub returns-clause-covered : goal.returns-clause-covered
returns-clause-covered c = covered
