use Rattle.std.proofs.Common.{◌≡◌, take}
use Rattle.std.specs.Prelude.{filter}
use Rattle.rules_create.specs.Tables.{is_ranked}
use Rattle.rules_create.proofs.indexes.of_rank.Given as goal

abbrev pub invariant-indexes : goal.invariant-indexes
invariant-indexes l = l.ranked ≡ filter (is_ranked l.columns l.rank) (take l.index-index l.indexes)
