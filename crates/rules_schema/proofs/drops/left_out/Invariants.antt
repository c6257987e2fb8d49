use Rattle.std.proofs.Common.{◌≡◌, take}
use Rattle.std.specs.Prelude.{filter}
use Rattle.rules_schema.specs.Drops.{is_left_out}
use Rattle.rules_schema.proofs.drops.left_out.Given as goal

abbrev pub invariant-objects : goal.invariant-objects
invariant-objects l = l.left ≡ filter (is_left_out l.tables) (take l.object-index l.objects)
