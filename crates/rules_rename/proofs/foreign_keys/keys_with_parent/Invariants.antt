use Rattle.std.proofs.Common.{◌≡◌, take, map}
use Rattle.rules_rename.specs.Renames.{with_parent}
use Rattle.rules_rename.proofs.foreign_keys.keys_with_parent.Given as goal

abbrev pub invariant-keys : goal.invariant-keys
invariant-keys l = l.found ≡ map (with_parent l.from l.to) (take l.key-index l.keys)
