use Rattle.std.proofs.Common.{◌≡◌, length}
use Rattle.rules_rename.specs.Renames.{in_order}
use Rattle.rules_rename.proofs.Keys.{in_order_among}
use Rattle.rules_rename.proofs.foreign_keys.in_order.Given as goal

abbrev pub invariant-rest : goal.invariant-rest
invariant-rest l = in_order_among l.rest.items l.found ≡ in_order l.fn.keys

abbrev pub decreases-rest : goal.decreases-rest
decreases-rest l = length l.rest.items
