use Rattle.std.proofs.Common.{◌≡◌, drop}
use Rattle.dd_catalog.specs.Walks.{run, every}
use Rattle.dd_catalog.specs.WalkLaws.{Look}
use Rattle.rules_alter.specs.Columns.{child_allows}
use Rattle.rules_alter.proofs.drops.allow_children.Given as goal

abbrev pub invariant-children : goal.invariant-children
invariant-children l = (look : Look) → run look (every (child_allows l.name l.table l.column) (drop l.child-index l.children)) ≡ run look (every (child_allows l.name l.table l.column) l.children)
