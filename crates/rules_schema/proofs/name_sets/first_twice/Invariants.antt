use Rattle.std.proofs.Common.{◌≡◌, [], take, drop}
use Rattle.rules_schema.specs.Drops.{first_twice}
use Rattle.rules_schema.proofs.Twice.{Has}
use Rattle.rules_schema.proofs.name_sets.first_twice.Given as goal

abbrev pub invariant-places : goal.invariant-places
invariant-places l = (first_twice (take l.place l.objects) (drop l.place l.objects) ≡ first_twice [] l.objects) × Has l.seen (take l.place l.objects)
