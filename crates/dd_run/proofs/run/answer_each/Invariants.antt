use Rattle.std.proofs.Common.{◌≡◌, length, map}
use Rattle.dd_engine.specs.Engine.{IsPlainHistory}
use Rattle.dd_run.specs.Ending.{statement_of_entry}
use Rattle.dd_run.proofs.run.answer_each.Given as goal

abbrev pub invariant-statements : goal.invariant-statements
invariant-statements l = record {
  said : IsPlainHistory l.engine;
  same : map statement_of_entry l.engine ≡ l.yielded;
  count : length l.engine ≡ length l.yielded;
}
