use Rattle.std.proofs.Common.{◌≡◌, length}
use Rattle.rules_elements.specs.Defaults.{without_zeros}
use Rattle.rules_elements.proofs.defaults.without_zeros.Given as goal

abbrev pub invariant-zeros : goal.invariant-zeros
invariant-zeros l = without_zeros l.rest ≡ without_zeros l.fn.digits

abbrev pub decreases-zeros : goal.decreases-zeros
decreases-zeros l = length l.rest
