use Rattle.std.proofs.Common.{◌≡◌, drop}
use Rattle.rules_rename.specs.Renames.{with_all}
use Rattle.rules_rename.specs.Pairs.{AreSame}
use Rattle.rules_rename.proofs.child_names.ChildNames.add_all.Given as goal

abbrev pub invariant-more : goal.invariant-more
invariant-more l = AreSame l.fn.self → AreSame l.self × (with_all l.self.names (drop l.name-index l.more) ≡ with_all l.fn.self.names l.more)
