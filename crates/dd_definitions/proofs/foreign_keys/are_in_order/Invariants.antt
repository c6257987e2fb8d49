use Rattle.std.proofs.Common.{◌≡◌, length}
use Rattle.dd_definitions.specs.ForeignKeys.{are_in_order}
use Rattle.dd_definitions.proofs.foreign_keys.are_in_order.Given as goal

abbrev pub invariant-loop-rest : goal.invariant-loop-rest
invariant-loop-rest l = are_in_order l.rest ≡ are_in_order l.fn.keys

abbrev pub decreases-loop-rest : goal.decreases-loop-rest
decreases-loop-rest l = length l.rest
