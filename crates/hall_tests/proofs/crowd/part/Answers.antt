use Rattle.std.proofs.Common.{arith}
use Rattle.hall_tests.proofs.crowd.part.Goals as goal

pub returns-clause-rest : goal.returns-clause-rest
returns-clause-rest g c = (c.split.ensures.same.0, c.split.ensures.same.1, λ n small. let h = c.requires.numbers n (omega (arith, small)) in (h.0, (c.split.ensures.left n h.0).1 (h.1, λ e. omega (arith, small, e))))
