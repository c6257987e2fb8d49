use Rattle.std.proofs.Common.{ap, sym, subst, List, ℕ}
use Rattle.turn_hall.specs.Numbers.{Has}
use Rattle.turn_hall.proofs.Pairs.{has_without, without_has, has_alone, alone_has}
use Rattle.turn_hall.proofs.hall.Hall.split.Goals as goal

pub returns-clause-left : goal.returns-clause-left
returns-clause-left g c n q =
    let H : List (ℕ × g.row.T-Part.Denot) → Type 0 = λ l. Has l n q in let e = ap (λ m. m.0.held) c.split_chosen.ensures.left in let old = c.args.pass.now.me.0.held in
    (λ h. has_without c.args.number old n q (subst H e h), λ t. subst H (sym e) (without_has c.args.number old n q t.0 t.1))

pub returns-clause-right : goal.returns-clause-right
returns-clause-right g c n q =
    let H : List (ℕ × g.row.T-Part.Denot) → Type 0 = λ l. Has l n q in let e = ap (λ m. m.0.held) c.split_chosen.ensures.right in let old = c.args.pass.now.me.0.held in (
      λ h. has_alone c.args.number old n q (subst H e h),
      λ t. let P : ℕ → Type 0 = λ k. Has old k q in let Q : ℕ → Type 0 = λ k. Has c.split_chosen.result.me.0.held k q in
          subst Q (sym t.1) (let H' : List (ℕ × g.row.T-Part.Denot) → Type 0 = λ l. Has l c.args.number q in subst H' (sym e) (alone_has c.args.number old q (subst P t.1 t.0))),
    )
