use Rattle.std.proofs.Common.{◌≡◌, map}
use Rattle.rules_alter.specs.Altering.{child_renamed}
use Rattle.rules_alter.proofs.renames.children_renamed.Given as goal

abbrev pub invariant-children : goal.invariant-children
invariant-children l = l.children ≡ map (child_renamed l.table l.from l.to) l.yielded
