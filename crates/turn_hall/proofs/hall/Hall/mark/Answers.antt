use Rattle.std.proofs.Common.{rules}
use Rattle.turn_hall.proofs.Turning.{marks}
use Rattle.turn_hall.proofs.hall.Hall.mark.Goals as goal

pub compare_exchange-requires : goal.compare_exchange-requires
compare_exchange-requires g c = (search rules, search rules, marks g.T.Stands.history g.T.Stands.part_of _ _ _ _ c.args.pass.now.me _ _ c.requires.shut.0 c.requires.shut.1)
