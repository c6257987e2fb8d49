use Rattle.std.proofs.Common.{arith}
use Rattle.std.proofs.lemmas.Grind.{common_steps}
use Rattle.rules_schema.proofs.Joined.{joined_more}
use Rattle.rules_schema.proofs.drops.joined.Goals as goal

pub others-preserved : goal.others-preserved
others-preserved c = grind (arith, common_steps, joined_more)
