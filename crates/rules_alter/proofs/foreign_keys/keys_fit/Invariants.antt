use Rattle.std.proofs.Common.{◌≡◌, drop}
use Rattle.dd_catalog.specs.Walks.{run, every}
use Rattle.dd_catalog.specs.WalkLaws.{Look}
use Rattle.rules_alter.specs.ForeignKeys.{pairs_on_fit}
use Rattle.rules_alter.proofs.foreign_keys.keys_fit.Given as goal

abbrev pub invariant-keys : goal.invariant-keys
invariant-keys l = (look : Look) → run look (every (pairs_on_fit l.child l.parts) (drop l.key-index l.keys)) ≡ run look (every (pairs_on_fit l.child l.parts) l.keys)
