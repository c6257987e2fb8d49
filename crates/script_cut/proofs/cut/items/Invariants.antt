use Rattle.std.proofs.Common.{◌≡◌, ◌≤◌, ◌-◌, ◌++◌, length, All}
use Rattle.script_cut.specs.Items.{items_of, IsItemOf}
use Rattle.script_cut.proofs.Moved.{more_of, IsStateOf}
use Rattle.script_cut.proofs.cut.items.Given as goal

abbrev pub invariant-pieces : goal.invariant-pieces
invariant-pieces l = record {
  so_far : l.items.items ++ more_of l.bytes l.state l.at ≡ items_of l.bytes;
  place : l.at ≤ length l.bytes;
  stands : IsStateOf l.bytes l.state l.at;
  each : All (IsItemOf l.bytes) l.items.items;
}

abbrev pub decreases-pieces : goal.decreases-pieces
decreases-pieces l = length l.bytes - l.at
