use Rattle.std.proofs.Common.{rules, arith, ℕ, List, sym, refl, subst}
use Rattle.turn_hall.specs.Numbers.{Has}
use Rattle.turn_hall.specs.Passes.{HoldsNumber}
use Rattle.hall_count.proofs.Marks.{added}
use Rattle.hall_count.proofs.turns.mark.Given.{Over}
use Rattle.hall_count.proofs.turns.mark.Goals.{After-enter-tally}
use Rattle.hall_count.proofs.turns.mark.Goals as goal

-- the pass holds its number while the value is out
holds : (g : Over) (c : After-enter-tally g) → HoldsNumber c.enter-tally.new.pass c.args.number
holds g c = let mine = c.requires.rests.1 in let H : List (ℕ × ℕ) → Type 0 = λ l. Has l c.args.number mine.0 in (mine.0, subst H (sym c.enter-tally.ensures.held) mine.1)

pub leave-requires-clause-out : goal.leave-requires-clause-out
leave-requires-clause-out g c =
    let x = c.enter-tally.result in let a = c.add-added in let number = c.args.number in let did = added a.result number x.entries.items a.new.self.entries.items a.ensures.ok a.ensures.err in
    let mine = holds g (goal.at.leave-requires-clause-out g c).After-enter-tally in (
      x,
      c.enter-tally.ensures.out,
      did.0,
      λ n small not. did.1 n (λ is. not (subst (HoldsNumber c.enter-tally.new.pass) (sym is) mine)),
      omega (arith, a.ensures.work),
    )

pub returns-clause-same : goal.returns-clause-same
returns-clause-same g c =
    let mine = holds g (goal.at.returns-clause-same g c).After-enter-tally in (search rules, c.leave.ensures.rests, (_, (c.leave.ensures.held c.args.number _).1 (mine, refl)))
