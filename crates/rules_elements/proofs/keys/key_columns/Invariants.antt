use Rattle.std.proofs.Common.{◌≡◌, drop}
use Rattle.dd_catalog.specs.Walks.{run, over}
use Rattle.dd_catalog.specs.WalkLaws.{Look}
use Rattle.rules_elements.specs.Keys.{one_more, key_columns}
use Rattle.rules_elements.proofs.keys.key_columns.Given as goal

abbrev pub invariant-names : goal.invariant-names
invariant-names l = (look : Look) → run look (over (one_more l.columns) l.found (drop l.name-index l.names)) ≡ run look (key_columns l.columns l.names)
