use Rattle.ddl_log.proofs.Effects.{in_turn, free, commutes, same_effect}
use Rattle.ddl_log.proofs.laws.several_records.Goals as goal

pub returns-clause-in_turn : goal.returns-clause-in_turn
returns-clause-in_turn c = in_turn

pub returns-clause-others : goal.returns-clause-others
returns-clause-others c = free

pub returns-clause-commutes : goal.returns-clause-commutes
returns-clause-commutes c = commutes

pub returns-clause-wants : goal.returns-clause-wants
returns-clause-wants c = same_effect
