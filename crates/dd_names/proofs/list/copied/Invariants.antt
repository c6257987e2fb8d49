use Rattle.std.proofs.Common.{◌≡◌, take}
use Rattle.dd_names.proofs.list.copied.Given as goal

abbrev pub invariant-items : goal.invariant-items
invariant-items g l = l.list ≡ take l.item-index l.items
