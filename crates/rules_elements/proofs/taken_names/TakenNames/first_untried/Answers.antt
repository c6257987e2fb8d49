use Rattle.std.proofs.Common.{sym}
use Rattle.rules_elements.proofs.Taken.{first_number}
use Rattle.rules_elements.proofs.taken_names.TakenNames.first_untried.Goals as goal

pub returns-in-Some : goal.returns-in-Some
returns-in-Some c indexes are = are.tried c.args.base.now c.in-Some.number.now (sym c.in-Some.ensures.value)

pub returns-in-None : goal.returns-in-None
returns-in-None c indexes are = first_number indexes c.args.base.now
