use Rattle.std.proofs.Common.{take}
use Rattle.rules_schema.proofs.Twice.{Has}
use Rattle.rules_schema.proofs.name_sets.set_of.Given as goal

abbrev pub invariant-places : goal.invariant-places
invariant-places l = Has l.names (take l.place l.objects)
