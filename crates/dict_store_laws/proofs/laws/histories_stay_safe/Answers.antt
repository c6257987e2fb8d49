use Rattle.dict_store_laws.proofs.Histories.{safe_on, safe_start, prefix_of_step, prefix_of_commit, has_prefix}
use Rattle.dict_store_laws.proofs.laws.histories_stay_safe.Goals as goal

pub returns-clause-begins : goal.returns-clause-begins
returns-clause-begins g c = safe_start g.M.Dictionary.meaning

pub returns-clause-goes_on : goal.returns-clause-goes_on
returns-clause-goes_on g c = safe_on g.M.Dictionary.meaning

pub returns-clause-step : goal.returns-clause-step
returns-clause-step g c = prefix_of_step g.M.Dictionary.meaning

pub returns-clause-commit : goal.returns-clause-commit
returns-clause-commit g c = prefix_of_commit g.M.Dictionary.meaning

pub returns-clause-acknowledged : goal.returns-clause-acknowledged
returns-clause-acknowledged g c = has_prefix g.M.Dictionary.meaning
