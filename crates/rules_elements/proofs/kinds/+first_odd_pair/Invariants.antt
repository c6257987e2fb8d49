use Rattle.std.proofs.Common.{length}
use Rattle.rules_elements.proofs.kinds.+first_odd_pair.Given as goal

abbrev pub decreases-first_odd_pair : goal.decreases-first_odd_pair
decreases-first_odd_pair l = length l.names.now
