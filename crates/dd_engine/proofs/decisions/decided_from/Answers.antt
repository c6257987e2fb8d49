use Rattle.std.proofs.Common.{arith}
use Rattle.rules_decide.specs.Outcome.{outcome}
use Rattle.dd_engine.proofs.Deciding.{left_at_most}
use Rattle.dd_engine.proofs.decisions.decided_from.Goals as goal

pub turns-init : goal.turns-init
turns-init c = record { known = c.requires.known; begun = omega (arith, left_at_most c.args.catalog.now c.args.part (outcome c.args.session.now c.args.statement.now)) }
