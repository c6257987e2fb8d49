use Rattle.log_rows.proofs.Logs.{begins, puts, drops, others, put_alone, drop_alone}
use Rattle.log_rows.proofs.laws.batches_change_logs.Goals as goal

pub returns-clause-begins : goal.returns-clause-begins
returns-clause-begins c = begins

pub returns-clause-puts : goal.returns-clause-puts
returns-clause-puts c = λ operations gone come item it each order. puts operations gone come item it each order

pub returns-clause-drops : goal.returns-clause-drops
returns-clause-drops c = λ operations gone come item it. drops operations gone come item it

pub returns-clause-others : goal.returns-clause-others
returns-clause-others c = others

pub returns-clause-alone_put : goal.returns-clause-alone_put
returns-clause-alone_put c = put_alone

pub returns-clause-alone_drop : goal.returns-clause-alone_drop
returns-clause-alone_drop c = drop_alone
