use Rattle.std.proofs.Common.{rules, ◌≡◌, ◌∙◌, ap, sym}
use mathlib.Core.Option.{some-injective}
use Rattle.std.specs.Prelude.{Some}
use Rattle.turn_hall.specs.Numbers.{AreParts}
use Rattle.turn_hall.proofs.Slots.{same_value}
use Rattle.turn_hall.proofs.Parting.{closes}
use Rattle.turn_hall.proofs.hall.Hall.close.Given.{Over}
use Rattle.turn_hall.proofs.hall.Hall.close.Goals.{After-free}
use Rattle.turn_hall.proofs.hall.Hall.close.Goals as goal

-- what was taken is the value that was at home
taken : (g : Over) (c : After-free g) → (x : g.row.T.Denot) × (c.take-place.result ≡ Some x) × (g.T.Stands.history x ≡ c.args.pass.me.0.seen) × AreParts (g.T.Stands.part_of x) c.args.pass.me.0.held
taken g c =
    let f = c.close_with-closed.ensures.values.2 in
    let e = closes g.T.Stands.history g.T.Stands.part_of _ _ f.0 _ c.args.pass.me.0 f.1.0 f.1.1 c.requires.rests.0 c.requires.all in
    (e.0, some-injective _ _ (sym c.take-place.ensures.value ∙ f.4 0 (Some e.0) e.1), e.2, e.3)

pub unwrap-requires : goal.unwrap-requires
unwrap-requires g c = let t = taken g c in search (rules, t.1)

pub returns-clause-seen : goal.returns-clause-seen
returns-clause-seen g c = let t = taken g (goal.at.returns-clause-seen g c).After-free in ap g.T.Stands.history (same_value c.take-place.result c.unwrap.result t.0 (search rules) t.1) ∙ t.2

pub returns-clause-parts : goal.returns-clause-parts
returns-clause-parts g c n q h = let t = taken g (goal.at.returns-clause-parts g c).After-free in t.3 n q h ∙ ap (λ x. g.T.Stands.part_of x n) (sym (same_value c.take-place.result c.unwrap.result t.0 (search rules) t.1))
