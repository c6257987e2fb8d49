use Rattle.std.proofs.Common.{◌≡◌, ◌++◌, take}
use Rattle.std.specs.Prelude.{flat_map}
use Rattle.show_text.specs.Keys.{behind_comma}
use Rattle.show_text.proofs.keys.push_behind_commas.Given as goal

abbrev pub invariant-names : goal.invariant-names
invariant-names l = l.out ≡ l.fn.out ++ flat_map behind_comma (take l.name-index l.names)
