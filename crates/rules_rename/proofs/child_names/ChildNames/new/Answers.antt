use Rattle.rules_rename.proofs.SameNames.{none_same}
use Rattle.rules_rename.proofs.child_names.ChildNames.new.Goals as goal

pub returns-clause-same : goal.returns-clause-same
returns-clause-same c = none_same (record { names = c.new.result; known = c.new-2.result }) c.new.ensures c.new-2.ensures.empty
