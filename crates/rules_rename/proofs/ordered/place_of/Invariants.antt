use Rattle.rules_rename.proofs.Names.{NamesBefore}
use Rattle.rules_rename.proofs.ordered.place_of.Given as goal

abbrev pub invariant-names : goal.invariant-names
invariant-names l = NamesBefore l.name l.names l.place
