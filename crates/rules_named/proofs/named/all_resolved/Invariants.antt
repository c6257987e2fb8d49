use Rattle.std.proofs.Common.{◌≡◌, drop}
use Rattle.dd_catalog.specs.Walks.{run, each}
use Rattle.dd_catalog.specs.WalkLaws.{Look}
use Rattle.dd_catalog.specs.LoopLaws.{with_front}
use Rattle.rules_named.specs.Named.{resolved}
use Rattle.rules_named.proofs.named.all_resolved.Given as goal

abbrev pub invariant-names : goal.invariant-names
invariant-names l = (look : Look) → with_front l.objects (run look (each (resolved l.current) (drop l.name-index l.named))) ≡ run look (each (resolved l.current) l.named)
