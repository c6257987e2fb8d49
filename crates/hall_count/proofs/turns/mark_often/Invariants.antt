use Rattle.std.proofs.Common.{ℕ, ◌+◌}
use Rattle.turn_hall.specs.Prefixes.{IsPrefix}
use Rattle.turn_hall.specs.Passes.{IsSamePass, seen_by, Holds, HoldsNumber, Rests}
use Rattle.hall_count.proofs.turns.mark_often.Given as goal

abbrev pub invariant-turns : goal.invariant-turns
invariant-turns g l = record {
  same : IsSamePass l.fn.pass l.pass;
  rests : Rests l.pass;
  number : HoldsNumber l.pass l.number;
  seen : IsPrefix (seen_by l.fn.pass) (seen_by l.pass);
  marked : (k : ℕ) → Holds l.fn.pass l.number k → Holds l.pass l.number (k + l._turn);
}
