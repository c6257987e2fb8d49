use Rattle.std.proofs.Common.{◌≡◌, drop}
use Rattle.dd_catalog.specs.Walks.{run, every}
use Rattle.dd_catalog.specs.WalkLaws.{Look}
use Rattle.rules_alter.specs.ForeignKeys.{child_fits}
use Rattle.rules_alter.proofs.foreign_keys.children_fit.Given as goal

abbrev pub invariant-children : goal.invariant-children
invariant-children l = (look : Look) → run look (every (child_fits l.parts) (drop l.child-index l.children)) ≡ run look (every (child_fits l.parts) l.children)
