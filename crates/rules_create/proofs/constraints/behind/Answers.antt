use Rattle.rules_create.proofs.Fronts.{behind_stripped}
use Rattle.rules_create.proofs.constraints.behind.Goals as goal

pub returns : goal.returns
returns c = behind_stripped c.args.front.now c.args.text.now c.strip_prefix.result c.strip_prefix.ensures.cases
