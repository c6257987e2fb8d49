use Rattle.std.proofs.Common.{◌≡◌, ◌++◌, take}
use Rattle.std.specs.List.{flat_map}
use Rattle.dd_run.specs.Printed.{row_text}
use Rattle.dd_run.proofs.answer_text.push_rows.Given as goal

abbrev pub invariant-rows : goal.invariant-rows
invariant-rows l = l.out.items ≡ l.fn.out.items ++ flat_map row_text (take l.row-index l.rows)
