use Rattle.std.proofs.Common.{subst, sym}
use Rattle.dd_names.specs.Names.{IsName}
use Rattle.dd_names.proofs.Folding.{fold-IsName}
use Rattle.dd_names.proofs.name.Name.fold.Goals as goal

pub invariant_of-result : goal.invariant_of-result
invariant_of-result c = subst IsName (sym c.in_ok-lowered.ensures) (fold-IsName c.self.inside.text c.self.invariant)
