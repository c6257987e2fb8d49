use Rattle.std.proofs.Common.{rules}
use Rattle.turn_hall.proofs.Parting.{copies}
use Rattle.turn_hall.proofs.hall.Hall.note.Goals as goal

pub split_seat-requires : goal.split_seat-requires
split_seat-requires g c = (search rules, search rules, copies g.T.Stands.history g.T.Stands.part_of _ _ _ c.args.pass.now.me.0 c.requires.rests.0)
