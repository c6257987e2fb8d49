use Rattle.std.proofs.Common.{◌≡◌, take}
use Rattle.std.specs.List.{flat_map}
use Rattle.rules_create.specs.Made.{own_keys_in}
use Rattle.rules_create.proofs.elements.keys_of_columns.Given as goal

abbrev pub invariant-elements : goal.invariant-elements
invariant-elements l = l.keys ≡ flat_map own_keys_in (take l.element-index l.elements)
