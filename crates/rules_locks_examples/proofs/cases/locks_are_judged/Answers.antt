use Rattle.rules_locks_examples.proofs.Alters.{judged, partly_known, viewed}
use Rattle.rules_locks_examples.proofs.cases.locks_are_judged.Goals as goal

pub returns-clause-partly_known : goal.returns-clause-partly_known
returns-clause-partly_known c = partly_known

pub returns-clause-viewed : goal.returns-clause-viewed
returns-clause-viewed c = viewed

pub returns-clause-judged : goal.returns-clause-judged
returns-clause-judged c = judged
