use Rattle.std.proofs.Common.{refl}
use Rattle.hall_tests.proofs.crowd.opened.Goals as goal

pub returns-in-Ok-clause-numbers : goal.returns-in-Ok-clause-numbers
returns-in-Ok-clause-numbers g c n small = (_, (c.in-Ok.ensures.held n _).1 (small, refl))
