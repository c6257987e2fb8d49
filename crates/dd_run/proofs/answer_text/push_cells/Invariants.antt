use Rattle.std.proofs.Common.{◌≡◌, ◌++◌, map, take}
use Rattle.std.specs.List.{flat_map}
use Rattle.dd_run.specs.Printed.{behind_tab, cell_text}
use Rattle.dd_run.proofs.answer_text.push_cells.Given as goal

abbrev pub invariant-cells : goal.invariant-cells
invariant-cells l = l.out.items ≡ l.fn.out.items ++ flat_map behind_tab (map cell_text (take l.cell-index l.cells))
