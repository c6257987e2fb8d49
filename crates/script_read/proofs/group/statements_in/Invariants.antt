use Rattle.std.proofs.Common.{◌≡◌, ◌++◌, drop}
use Rattle.script_read.specs.Scripts.{statements_in}
use Rattle.script_read.proofs.group.statements_in.Given as goal

abbrev pub invariant-items : goal.invariant-items
invariant-items l = record { so_far : l.found ++ statements_in l.text (drop l.item-index l.items) ≡ statements_in l.text l.items }
