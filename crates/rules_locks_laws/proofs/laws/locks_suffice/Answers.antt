use Rattle.rules_locks_laws.proofs.Suffice.{kept_stays, held_agrees, plan_agrees, held_run}
use Rattle.rules_locks_laws.proofs.Whole.{held_among, plan_whole}
use Rattle.rules_locks_laws.proofs.laws.locks_suffice.Goals as goal

pub returns-clause-kept : goal.returns-clause-kept
returns-clause-kept c = kept_stays

pub returns-clause-held : goal.returns-clause-held
returns-clause-held c = held_agrees

pub returns-clause-agreeing : goal.returns-clause-agreeing
returns-clause-agreeing c = plan_agrees

pub returns-clause-right : goal.returns-clause-right
returns-clause-right c = held_run

pub returns-clause-part : goal.returns-clause-part
returns-clause-part c = held_among

pub returns-clause-whole : goal.returns-clause-whole
returns-clause-whole c = plan_whole
