use Rattle.std.proofs.Common.{◌≡◌, drop}
use Rattle.dd_catalog.specs.Walks.{run, each}
use Rattle.dd_catalog.specs.WalkLaws.{Look}
use Rattle.dd_catalog.specs.LoopLaws.{with_front}
use Rattle.rules_rename.specs.Renames.{named_pair}
use Rattle.rules_rename.proofs.statement.named_pairs.Given as goal

abbrev pub invariant-pairs : goal.invariant-pairs
invariant-pairs l = (look : Look) → with_front l.named (run look (each (named_pair l.current) (drop l.pair-index l.pairs))) ≡ run look (each (named_pair l.current) l.pairs)
