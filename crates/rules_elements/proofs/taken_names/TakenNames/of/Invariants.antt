use Rattle.std.proofs.Common.{take}
use Rattle.rules_elements.specs.Taken.{AreNamesOf}
use Rattle.rules_elements.proofs.taken_names.TakenNames.of.Given as goal

abbrev pub invariant-indexes : goal.invariant-indexes
invariant-indexes l = AreNamesOf l.names (take l.index-index l.indexes)
