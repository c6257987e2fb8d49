use Rattle.std.proofs.Common.{◌≡◌, take}
use Rattle.std.specs.List.{flat_map}
use Rattle.rules_alter.specs.Statements.{target_in}
use Rattle.rules_alter_statements.proofs.names.targets_in.Given as goal

abbrev pub invariant-actions : goal.invariant-actions
invariant-actions l = l.targets ≡ flat_map target_in (take l.action-index l.actions)
