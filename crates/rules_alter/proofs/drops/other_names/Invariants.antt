use Rattle.std.proofs.Common.{◌≡◌, take}
use Rattle.rules_alter.specs.Columns.{without_null}
use Rattle.rules_alter.proofs.drops.other_names.Given as goal

abbrev pub invariant-names : goal.invariant-names
invariant-names l = l.others ≡ without_null l.name (take l.other-index l.names)
