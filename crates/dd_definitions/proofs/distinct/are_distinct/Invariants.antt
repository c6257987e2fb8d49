use Rattle.std.proofs.Common.{◌≡◌, length}
use Rattle.dd_definitions.specs.Distinct.{are_distinct}
use Rattle.dd_definitions.proofs.distinct.are_distinct.Given as goal

abbrev pub invariant-loop-rest : goal.invariant-loop-rest
invariant-loop-rest g l = are_distinct g.T.Distinct.is_like l.rest ≡ are_distinct g.T.Distinct.is_like l.fn.items

abbrev pub decreases-loop-rest : goal.decreases-loop-rest
decreases-loop-rest g l = length l.rest
