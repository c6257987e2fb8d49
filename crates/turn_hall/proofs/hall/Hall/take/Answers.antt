use Rattle.std.proofs.Common.{rules}
use Rattle.turn_hall.proofs.Pairs.{not_empty}
use Rattle.turn_hall.proofs.Turning.{tries}
use Rattle.turn_hall.proofs.hall.Hall.take.Goals as goal

pub compare_exchange-door-requires : goal.compare_exchange-door-requires
compare_exchange-door-requires g c = let rests = c.requires.rests in (
  search rules,
  search rules,
  tries g.T.Stands.history g.T.Stands.part_of _ _ _ _ c.args.pass.now.me _ _ rests.0.0 (not_empty c.args.pass.now.me.0.held rests.1.0 rests.1.1.0 rests.1.1.1) c.requires.free c.requires.shut,
)
