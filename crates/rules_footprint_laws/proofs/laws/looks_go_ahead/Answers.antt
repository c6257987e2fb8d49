use Rattle.rules_footprint_laws.proofs.Ahead.{ahead_found, ahead_needed, ahead_whole, locks_ahead, told_ahead, told_covered}
use Rattle.rules_footprint_laws.proofs.laws.looks_go_ahead.Goals as goal

pub returns-clause-found : goal.returns-clause-found
returns-clause-found c = ahead_found

pub returns-clause-needed : goal.returns-clause-needed
returns-clause-needed c = ahead_needed

pub returns-clause-whole : goal.returns-clause-whole
returns-clause-whole c = ahead_whole

pub returns-clause-any : goal.returns-clause-any
returns-clause-any c = told_ahead

pub returns-clause-locks : goal.returns-clause-locks
returns-clause-locks c = locks_ahead

pub returns-clause-covered : goal.returns-clause-covered
returns-clause-covered c = told_covered
