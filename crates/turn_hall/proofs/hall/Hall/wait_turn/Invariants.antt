use Rattle.std.proofs.Common.{◌≡◌}
use Rattle.turn_hall.proofs.hall.Hall.wait_turn.Given as goal

abbrev pub invariant-wait : goal.invariant-wait
invariant-wait g l = (l.pass.table_id ≡ l.fn.pass.table_id) × (l.pass.id ≡ l.fn.pass.id) × (l.pass.me ≡ l.fn.pass.me)
