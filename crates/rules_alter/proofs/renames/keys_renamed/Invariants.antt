use Rattle.std.proofs.Common.{◌≡◌, map, take}
use Rattle.rules_alter.specs.Altering.{with_parent_renamed}
use Rattle.rules_alter.proofs.renames.keys_renamed.Given as goal

abbrev pub invariant-keys : goal.invariant-keys
invariant-keys l = l.found ≡ map (with_parent_renamed l.table l.from l.to) (take l.key-index l.keys)
