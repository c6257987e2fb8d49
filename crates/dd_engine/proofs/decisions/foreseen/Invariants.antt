use Rattle.dd_engine.specs.Known.{IsKnown}
use Rattle.dd_engine.proofs.decisions.foreseen.Given as goal

abbrev pub invariant-rounds : goal.invariant-rounds
invariant-rounds l = IsKnown l.catalog l.part
