use Rattle.std.proofs.Common.{◌≤◌, ◌+◌}
use Rattle.rules_decide.specs.Outcome.{outcome}
use Rattle.dd_engine.specs.Known.{IsKnown, left_in, looks_of}
use Rattle.dd_engine.proofs.decisions.decided_from.Given as goal

-- each beginning so far but the next one has made a key known
abbrev pub invariant-turns : goal.invariant-turns
invariant-turns l = record {
  known : IsKnown l.catalog l.part;
  begun : l.begun + left_in l.catalog (outcome l.session l.statement) l.part ≤ looks_of l.catalog (outcome l.session l.statement);
}

abbrev pub decreases-turns : goal.decreases-turns
decreases-turns l = left_in l.catalog (outcome l.session l.statement) l.part
