use Rattle.std.proofs.Common.{ℕ, ◌+◌, ◌<◌}
use Rattle.turn_hall.specs.Passes.{IsSamePass, HoldsNumber, Rests}
use Rattle.hall_tests.proofs.crowd.guests.Given as goal

abbrev pub invariant-guests : goal.invariant-guests
invariant-guests g l = record {
  same : IsSamePass l.fn.pass l.pass;
  rests : Rests l.pass;
  numbers : (n : ℕ) → n + l.made < l.count + 1 → HoldsNumber l.pass n;
}
