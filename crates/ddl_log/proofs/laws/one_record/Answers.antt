use Rattle.ddl_log.proofs.Effects.{again, off_record, local, is_done, is_under}
use Rattle.ddl_log.proofs.laws.one_record.Goals as goal

pub returns-clause-twice : goal.returns-clause-twice
returns-clause-twice c = again

pub returns-clause-others : goal.returns-clause-others
returns-clause-others c = off_record

pub returns-clause-local : goal.returns-clause-local
returns-clause-local c = local

pub returns-clause-done : goal.returns-clause-done
returns-clause-done c = is_done

pub returns-clause-under : goal.returns-clause-under
returns-clause-under c = is_under
