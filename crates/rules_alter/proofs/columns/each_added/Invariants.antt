use Rattle.std.proofs.Common.{◌≡◌, drop}
use Rattle.dd_catalog.specs.Walks.{run, over}
use Rattle.dd_catalog.specs.WalkLaws.{Look}
use Rattle.std.specs.Prelude.{None}
use Rattle.rules_alter.specs.Columns.{column_added}
use Rattle.rules_alter.proofs.columns.each_added.Given as goal

abbrev pub invariant-columns : goal.invariant-columns
invariant-columns l = (look : Look) → run look (over (column_added None) l.state (drop l.words-index l.columns)) ≡ run look (over (column_added None) l.fn.state l.columns)
