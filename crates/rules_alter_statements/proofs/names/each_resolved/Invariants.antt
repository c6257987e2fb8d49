use Rattle.std.proofs.Common.{◌≡◌, drop}
use Rattle.dd_catalog.specs.Walks.{run, each}
use Rattle.dd_catalog.specs.WalkLaws.{Look}
use Rattle.dd_catalog.specs.LoopLaws.{with_front}
use Rattle.rules_named.specs.Named.{resolved}
use Rattle.rules_alter_statements.proofs.names.each_resolved.Given as goal

abbrev pub invariant-written : goal.invariant-written
invariant-written l = (look : Look) → with_front l.names (run look (each (resolved l.current) (drop l.name-index l.written))) ≡ run look (each (resolved l.current) l.written)
