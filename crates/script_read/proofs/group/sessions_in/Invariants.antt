use Rattle.std.proofs.Common.{◌≡◌, ◌++◌, All, length}
use Rattle.script_cut.specs.Items.{IsItemOf}
use Rattle.script_read.specs.Scripts.{sessions_in}
use Rattle.script_read.proofs.group.sessions_in.Given as goal

abbrev pub invariant-items : goal.invariant-items
invariant-items l = record { so_far : l.found ++ sessions_in l.text l.left ≡ sessions_in l.text l.items; each : All (IsItemOf l.text) l.left }

abbrev pub decreases-items : goal.decreases-items
decreases-items l = length l.left
