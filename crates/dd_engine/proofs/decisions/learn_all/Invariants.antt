use Rattle.dd_engine.specs.Known.{IsKnown}
use Rattle.dd_engine.proofs.decisions.learn_all.Given as goal

abbrev pub invariant-keys : goal.invariant-keys
invariant-keys l = IsKnown l.catalog l.part
