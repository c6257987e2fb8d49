use Rattle.std.proofs.Common.{rules, ℕ, List, sym, refl, subst}
use Rattle.turn_hall.specs.Numbers.{Has}
use Rattle.turn_hall.specs.Passes.{HoldsNumber}
use Rattle.hall_tests.proofs.turn.take_turn.Goals as goal

pub returns : goal.returns
returns g c =
    let mine = c.requires.rests.1 in let H : List (ℕ × g.row.T-Part.Denot) → Type 0 = λ l. Has l c.args.number mine.0 in
    let held : HoldsNumber c.enter-value.new.pass c.args.number = (mine.0, subst H (sym c.enter-value.ensures.held) mine.1) in
    record { same = (search rules, c.leave.ensures.rests, (_, (c.leave.ensures.held c.args.number _).1 (held, refl))) }
