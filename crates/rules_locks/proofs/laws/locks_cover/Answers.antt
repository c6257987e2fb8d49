use Rattle.rules_locks.proofs.Covers.{covered_more, claims_among, covered_stays, locks_covered}
use Rattle.rules_locks.proofs.laws.locks_cover.Goals as goal

pub returns-clause-covered : goal.returns-clause-covered
returns-clause-covered c = locks_covered

pub returns-clause-more : goal.returns-clause-more
returns-clause-more c less more claim among = covered_more less more among claim

pub returns-clause-growing : goal.returns-clause-growing
returns-clause-growing c = claims_among

pub returns-clause-needed : goal.returns-clause-needed
returns-clause-needed c = covered_stays
