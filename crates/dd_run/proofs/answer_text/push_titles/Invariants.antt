use Rattle.std.proofs.Common.{◌≡◌, ◌++◌, take}
use Rattle.std.specs.List.{flat_map}
use Rattle.dd_run.specs.Printed.{behind_tab}
use Rattle.dd_run.proofs.answer_text.push_titles.Given as goal

abbrev pub invariant-titles : goal.invariant-titles
invariant-titles l = l.out.items ≡ l.fn.out.items ++ flat_map behind_tab (take l.title-index l.titles)
