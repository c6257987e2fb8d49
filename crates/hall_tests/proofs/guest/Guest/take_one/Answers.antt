use Rattle.std.proofs.Common.{◌∙◌}
use Rattle.hall_tests.proofs.Seats.{found, some_alone}
use Rattle.hall_tests.proofs.guest.Guest.take_one.Goals as goal

pub take_turn-requires-clause-rests : goal.take_turn-requires-clause-rests
take_turn-requires-clause-rests g c = let me = c.args.self.now in (me.rests, found me.number me.pass.me.0.held me.holds)

pub invariant_of-self : goal.invariant_of-self
invariant_of-self g c = let me = c.args.self.now in let same = c.take_turn.ensures.same in record {
  from_zero = me.from_zero;
  of_hall = same.0.0 ∙ me.of_hall;
  rests = same.1;
  holds = some_alone me.number c.take_turn.new.pass.me.0.held same.2;
}
