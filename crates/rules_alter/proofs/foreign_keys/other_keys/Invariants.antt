use Rattle.std.proofs.Common.{◌≡◌, take}
use Rattle.rules_alter.specs.ForeignKeys.{other_keys}
use Rattle.rules_alter.proofs.foreign_keys.other_keys.Given as goal

abbrev pub invariant-keys : goal.invariant-keys
invariant-keys l = l.others ≡ other_keys l.name (take l.key-index l.keys)
