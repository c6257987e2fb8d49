use Rattle.std.specs.Prelude.{[]}
use Rattle.rules_locks.proofs.Told.{told_nothing, told_more, once_runs, knows_nothing}
use Rattle.rules_locks.proofs.laws.told_in_order.Goals as goal

pub returns-clause-nothing : goal.returns-clause-nothing
returns-clause-nothing c = told_nothing

pub returns-clause-more : goal.returns-clause-more
returns-clause-more c = told_more

pub returns-clause-same : goal.returns-clause-same
returns-clause-same c look check = once_runs look [] check (knows_nothing look)
