use Rattle.std.proofs.Common.{rules, arith, ◌≡◌, ◌∙◌, ap, sym, subst, [], ◌∷◌, List, ℕ}
use Rattle.std.specs.Prelude.{Some, None}
use Rattle.atomic_table.specs.Table.{rest}
use Rattle.turn_hall.specs.Prefixes.{IsPrefix}
use Rattle.turn_hall.specs.Numbers.{Has, refreshed}
use Rattle.turn_hall.proofs.Pairs.{refreshed_has, has_refreshed}
use Rattle.turn_hall.proofs.Slots.{same_in}
use Rattle.turn_hall.proofs.Turning.{adds}
use Rattle.turn_hall.proofs.hall.Hall.leave.Given.{Over}
use Rattle.turn_hall.proofs.hall.Hall.leave.Goals.{After-store, After-give_back}
use Rattle.turn_hall.proofs.hall.Hall.leave.Goals as goal

pub exchange-requires : goal.exchange-requires
exchange-requires g c = let has = c.requires.out.1.1 in (search rules, (None, has ∙ (λ i. (0, None) ∷ sym (ap rest has) i)))

pub store-requires : goal.store-requires
store-requires g c =
    let out = c.requires.out in let now = c.exchange.ensures.3 in let y = c.args.value in let me = c.exchange.new.seat.me in
    let longer : IsPrefix me.0.seen (g.T.Stands.history y) = subst (λ (l : List g.row.T-Entry.Denot). IsPrefix l (g.T.Stands.history y)) (sym (ap (λ m. m.0.seen) now ∙ out.1.2)) out.2 in (
      search rules,
      search rules,
      adds g.T.Stands.history g.T.Stands.part_of _ _ _ _ _ out.0 y me (ap (λ m. m.0.stage) now ∙ out.1.0) (ap (λ m. m.1) now ∙ (λ i. (0, Some y) ∷ ap rest out.1.1 i)) longer (search (rules, arith)),
    )

-- the slot has the value that is given back
slot : (g : Over) (c : After-store g) → c.store.new.seat.me.1 ≡ (0, Some c.args.value) ∷ []
slot g c = ap (λ m. m.1) c.store.ensures.2.2 ∙ (ap (λ m. m.1) c.exchange.ensures.3 ∙ (λ i. (0, Some c.args.value) ∷ ap rest c.requires.out.1.1 i))

pub give_back-requires-clause-out : goal.give_back-requires-clause-out
give_back-requires-clause-out g c =
    let out = c.requires.out in let now = c.exchange.ensures.3 in let did = c.store.ensures.2 in let has = slot g (goal.at.give_back-requires-clause-out g c).After-store in (
      out.0,
      c.args.value,
      ap (λ m. m.0.stage) did.2 ∙ (ap (λ m. m.0.stage) now ∙ out.1.0),
      has,
      ap (λ m. m.0.seen) did.2 ∙ ap g.T.Stands.history (same_in _ did.0 c.args.value did.1 (sym (ap (λ m. m.1) did.2) ∙ has)),
      λ n small not. out.3 n small (λ h. not (h.0, subst (λ (l : List (ℕ × g.row.T-Part.Denot)). Has l n h.0) (sym (ap (λ m. m.0.held) did.2 ∙ ap (λ m. m.0.held) now)) h.1)),
    )

-- the pass has the numbers that it had, with the parts of the value that it put back
parts : (g : Over) (c : After-give_back g) → c.store.new.seat.me.1 ≡ (0, Some c.args.value) ∷ [] → c.give_back.new.pass.me.0.held ≡ refreshed (g.T.Stands.part_of c.args.value) c.args.pass.now.me.0.held
parts g c has =
    let P = g.T.Stands.part_of in let y = c.args.value in let last = c.give_back.ensures.handed in
    let same : last.0 ≡ y = same_in _ last.0 y last.1 has in let kept = ap (λ m. m.0.held) c.store.ensures.2.2 ∙ ap (λ m. m.0.held) c.exchange.ensures.3 in
    ap (λ m. m.0.held) last.2 ∙ (λ i. refreshed (P (same i)) (kept i))

pub returns-clause-held : goal.returns-clause-held
returns-clause-held g c n q =
    let Q = g.row.T-Part.Denot in let H : List (ℕ × Q) → Type 0 = λ l. Has l n q in let f = g.T.Stands.part_of c.args.value in let old = c.args.pass.now.me.0.held in
    let at = goal.at.returns-clause-held g c in let e = parts g at.After-give_back (slot g at.After-store) in
    (λ h. refreshed_has f old n q (subst H e h), λ t. subst H (sym e) (let K : Q → Type 0 = λ p. Has (refreshed f old) n p in subst K (sym t.1) (has_refreshed f old n t.0.0 t.0.1)))
