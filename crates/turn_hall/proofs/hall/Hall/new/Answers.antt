use Rattle.std.proofs.Common.{rules, ◌≡◌, sym, subst, List, ℕ, ◌+◌, ◌∷◌, []}
use Rattle.atomic_table.specs.Table.{opening}
use Rattle.turn_hall.specs.Rule.{Turns, first_open}
use Rattle.turn_hall.specs.Moves.{first_view}
use Rattle.std.specs.Prelude.{Option, Some}
use Rattle.turn_hall.specs.Numbers.{Has, table_of}
use Rattle.turn_hall.proofs.Pairs.{has_table, table_has}
use Rattle.turn_hall.proofs.Parting.{opens}
use Rattle.turn_hall.proofs.hall.Hall.new.Goals as goal

pub new-requires : goal.new-requires
new-requires g c =
    let S = g.T.Stands in let x = c.args.value in
    let F : (g.row.T.Denot × ℕ × List (Option g.row.T.Denot)) → Type 0 = λ z. Turns S.history S.part_of (S.numbers z.0) c.args.first (opening ((c.args.first + z.1) ∷ first_open ∷ []) z.2 (first_view S.history S.part_of (S.numbers z.0) z.0)) in
    let items : c.push_reserved.new.self.items ≡ Some x ∷ [] = search rules in
    subst F (λ k. (sym c.of.ensures k, sym c.entries.ensures k, sym items k)) (opens S.history S.part_of x (S.numbers x) c.args.first c.requires.numbers)

pub returns-in-Ok-new-clause-held : goal.returns-in-Ok-new-clause-held
returns-in-Ok-new-clause-held g c n q =
    let Q = g.row.T-Part.Denot in let f = g.T.Stands.part_of c.args.value in let count = g.T.Stands.numbers c.args.value in let H : List (ℕ × Q) → Type 0 = λ l. Has l n q in
    let e : c.in-Ok-new.pass.me.0.held ≡ table_of f count = search rules in
    (λ h. has_table f count n q (subst H e h), λ t. subst H (sym e) (let K : Q → Type 0 = λ p. Has (table_of f count) n p in subst K (sym t.1) (table_has f count n t.0)))
