use Rattle.std.proofs.Common.{rules, arith}
use Rattle.turn_hall.proofs.Turning.{hands_on}
use Rattle.turn_hall.proofs.hall.Hall.give_back.Goals as goal

pub swap-found-requires : goal.swap-found-requires
swap-found-requires g c = let out = c.requires.out in (
  search rules,
  search rules,
  hands_on g.T.Stands.history g.T.Stands.part_of _ _ _ _ _ out.0 out.1 c.args.pass.now.me out.2 out.3 out.4 (search (rules, arith)) out.5,
)
