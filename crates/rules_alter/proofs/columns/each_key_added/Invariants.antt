use Rattle.std.proofs.Common.{◌≡◌, drop}
use Rattle.dd_catalog.specs.Walks.{run, over}
use Rattle.dd_catalog.specs.WalkLaws.{Look}
use Rattle.rules_alter.specs.Keys.{key_added}
use Rattle.rules_alter.proofs.columns.each_key_added.Given as goal

abbrev pub invariant-keys : goal.invariant-keys
invariant-keys l = (look : Look) → run look (over (key_added l.nulls) l.parts (drop l.key-index l.keys)) ≡ run look (over (key_added l.nulls) l.fn.parts l.keys)
