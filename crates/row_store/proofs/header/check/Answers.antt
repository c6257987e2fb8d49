use Rattle.std.proofs.Common.{refl}
use Rattle.row_store.proofs.Heads.{checked}
use Rattle.row_store.proofs.header.check.Goals as goal

pub returns-in-Ok-clause-judged : goal.returns-in-Ok-clause-judged
returns-in-Ok-clause-judged g c = checked (g.D.Disk.story c.args.disk.now) c.args.path.now c.judge.result _ c.read_at.new.into c.front.result.now c.in-Ok.read refl c.in-Ok.ensures.bytes c.front.ensures c.judge.ensures
