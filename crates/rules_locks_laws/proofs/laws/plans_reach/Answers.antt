use Rattle.rules_locks_laws.proofs.Reach.{plan_reaches}
use Rattle.rules_locks_laws.proofs.laws.plans_reach.Goals as goal

pub returns : goal.returns
returns c = plan_reaches
