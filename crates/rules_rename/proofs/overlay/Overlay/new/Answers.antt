use Rattle.std.proofs.Common.{ap, subst, sym}
use Rattle.std.specs.Prelude.{IsTrue}
use Rattle.rules_rename.specs.Puts.{are_in_order}
use Rattle.rules_rename.proofs.InOrder.{risen}
use Rattle.rules_rename.proofs.Indexed.{none_indexed}
use Rattle.rules_rename.proofs.overlay.Overlay.new.Goals as goal

pub invariant_of-result : goal.invariant_of-result
invariant_of-result c = (risen c.new.result.entries c.new.ensures.ordered, none_indexed c.new-2.result c.new.result c.new.ensures.empty)
