use Rattle.std.proofs.Common.{sym, subst, List, ℕ}
use Rattle.turn_hall.specs.Numbers.{Has}
use Rattle.turn_hall.proofs.Pairs.{has_append, append_has}
use Rattle.turn_hall.proofs.hall.Hall.join.Goals as goal

pub returns-clause-held : goal.returns-clause-held
returns-clause-held g c n q =
    let H : List (ℕ × g.row.T-Part.Denot) → Type 0 = λ l. Has l n q in let e = c.gather.ensures.held in let a = c.args.pass.now.me.0.held in let b = c.args.other.me.0.held in
    (λ h. has_append a b n q (subst H e h), λ t. subst H (sym e) (append_has a b n q t))
