use Rattle.std.proofs.Common.{◌≡◌, map, take}
use Rattle.std.specs.Option.{option_copied}
use Rattle.rules_alter.specs.Rebuilds.{name_behind}
use Rattle.rules_alter.proofs.rebuilds.names_behind.Given as goal

abbrev pub invariant-names : goal.invariant-names
invariant-names l = l.found ≡ map (name_behind (option_copied l.from) (option_copied l.to)) (take l.name-index l.names)
