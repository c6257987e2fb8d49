use Rattle.rules_rename.proofs.overlay.Overlay.put.Goals as goal

pub invariant_of-self : goal.invariant_of-self
invariant_of-self c = (c.put.ensures.ordered c.self.invariant.0, c.put.ensures.indexed c.self.invariant.1)
