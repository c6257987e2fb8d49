use Rattle.std.proofs.Common.{◌≡◌, ◌+◌, take}
use Rattle.std.specs.List.{sum_by}
use Rattle.dd_engine.specs.Listed.{cell_size}
use Rattle.dd_engine.proofs.listed.room_behind_cells.Given as goal

abbrev pub invariant-cells : goal.invariant-cells
invariant-cells l = sum_by cell_size (take l.cell-index l.cells) + l.left ≡ l.room
