use Rattle.rules_locks_sessions.proofs.Events.{sound_behind, begins, plan_right}
use Rattle.rules_locks_sessions.proofs.laws.worlds_stay_sound.Goals as goal

pub returns-clause-begins : goal.returns-clause-begins
returns-clause-begins c = begins

pub returns-clause-right : goal.returns-clause-right
returns-clause-right c = plan_right

pub returns-clause-stays : goal.returns-clause-stays
returns-clause-stays c = sound_behind
