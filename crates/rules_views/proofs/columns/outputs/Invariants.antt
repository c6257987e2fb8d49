use Rattle.std.proofs.Common.{◌≡◌, drop}
use Rattle.dd_catalog.specs.WalkLaws.{Look}
use Rattle.dd_catalog.specs.Walks.{run, each}
use Rattle.dd_catalog.specs.LoopLaws.{with_front}
use Rattle.rules_views.specs.Columns.{one_output}
use Rattle.rules_views.proofs.columns.outputs.Given as goal

abbrev pub invariant-outputs : goal.invariant-outputs
invariant-outputs l = (look : Look) → with_front l.columns (run look (each (one_output l.asked l.shown) (drop l.output-index l.outputs))) ≡ run look (each (one_output l.asked l.shown) l.outputs)
