use Rattle.log_rows.proofs.Logs.{no_log, one_log, follows_log, log_with, log_without}
use Rattle.log_rows.proofs.laws.logs_follow_batches.Goals as goal

pub returns-clause-none : goal.returns-clause-none
returns-clause-none c = no_log

pub returns-clause-one : goal.returns-clause-one
returns-clause-one c = one_log

pub returns-clause-follows : goal.returns-clause-follows
returns-clause-follows c = λ operations rows earlier gone come later log it sorted each order. follows_log operations rows earlier gone come later log it sorted each order

pub returns-clause-put : goal.returns-clause-put
returns-clause-put c = λ rows item earlier later is log order. log_with rows item earlier later is log order

pub returns-clause-dropped : goal.returns-clause-dropped
returns-clause-dropped c = λ rows item earlier later log. log_without rows item earlier later log
