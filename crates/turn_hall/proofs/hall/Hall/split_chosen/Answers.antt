use Rattle.std.proofs.Common.{rules, ◌∙◌, sym, subst, ℕ}
use Rattle.turn_hall.proofs.Parting.{splits_off}
use Rattle.turn_hall.specs.Numbers.{Has}
use Rattle.turn_hall.proofs.hall.Hall.split_chosen.Goals as goal

pub split_seat-requires : goal.split_seat-requires
split_seat-requires g c = let r = c.requires in (
  search rules,
  search rules,
  splits_off g.T.Stands.history g.T.Stands.part_of _ _ _ _ c.args.pass.now.me.0 r.rests.0 (r.number.0, subst (λ (n : ℕ). Has c.args.pass.now.me.0.held n r.number.0) r.chosen r.number.1)
      (r.another.0, r.another.1, λ e. r.another.2 (e ∙ sym r.chosen)),
)
