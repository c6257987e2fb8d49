use Rattle.std.proofs.Common.{◌≡◌, ◌+◌, take}
use Rattle.std.specs.List.{sum_by}
use Rattle.dd_engine.specs.Listed.{row_size}
use Rattle.dd_engine.proofs.listed.room_behind_rows.Given as goal

abbrev pub invariant-rows : goal.invariant-rows
invariant-rows l = sum_by row_size (take l.row-index l.rows) + l.left ≡ l.room
