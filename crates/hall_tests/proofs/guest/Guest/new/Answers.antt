use Rattle.hall_tests.proofs.Seats.{some_alone}
use Rattle.hall_tests.proofs.guest.Guest.new.Goals as goal

pub invariant_of-result : goal.invariant_of-result
invariant_of-result g c = record {
  from_zero = c.requires.hall.1;
  of_hall = c.requires.hall.0;
  rests = c.requires.rests.0;
  holds = some_alone c.args.number c.args.pass.me.0.held c.requires.rests.1;
}
