use Rattle.std.proofs.Common.{rules, ◌∙◌, ap, sym}
use Rattle.turn_hall.proofs.Parting.{joins, learns}
use Rattle.turn_hall.specs.Prefixes.{longer}
use Rattle.turn_hall.proofs.hall.Hall.gather.Goals as goal

pub join_seat-requires : goal.join_seat-requires
join_seat-requires g c = let r = c.requires in (search rules, search rules, r.rests.1.1, search rules, joins g.T.Stands.history g.T.Stands.part_of _ _ _ _ c.args.pass.now.me.0 c.args.other.me.0 r.rests.0.0 r.rests.1.0)

pub load-requires : goal.load-requires
load-requires g c = let e = c.join_seat.ensures.2 in (
  search rules,
  search rules,
  learns g.T.Stands.history g.T.Stands.part_of _ _ _ _ c.join_seat.new.seat.me (ap (λ m. m.0.seen) e ∙ (λ k. longer (sym (ap (λ m. m.0.told) e) k) (sym (ap (λ m. m.0.heard) e) k))),
)
