use Rattle.std.proofs.Common.{◌≡◌, map, take}
use Rattle.rules_alter.specs.Altering.{renamed_name}
use Rattle.rules_alter.proofs.renames.names_renamed.Given as goal

abbrev pub invariant-names : goal.invariant-names
invariant-names l = l.found ≡ map (renamed_name l.from l.to) (take l.name-index l.names)
