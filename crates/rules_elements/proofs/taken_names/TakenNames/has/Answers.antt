use Rattle.rules_elements.proofs.Taken.{name_there}
use Rattle.rules_elements.proofs.taken_names.TakenNames.has.Goals as goal

pub returns : goal.returns
returns c indexes are = name_there c.args.self.now indexes c.args.name.now c.in_ok-name.name c.contains.result c.in_ok-name.ensures c.contains.ensures are
