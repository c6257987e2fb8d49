use Rattle.std.proofs.Common.{◌≡◌, drop}
use Rattle.dd_definitions.specs.Indexes.{are_ranked_from}
use Rattle.dd_definitions.proofs.indexes.are_ranked.Given as goal

abbrev pub invariant-loop-index : goal.invariant-loop-index
invariant-loop-index l = are_ranked_from l.columns l.least (drop l.index-index l.indexes) ≡ are_ranked_from l.columns 0 l.indexes
