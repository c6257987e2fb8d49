use Rattle.std.proofs.Common.{length}
use Rattle.dd_definitions.proofs.foreign_keys.+folded_cmp.Given as goal

abbrev pub decreases-folded_cmp : goal.decreases-folded_cmp
decreases-folded_cmp l = length l.a.now
