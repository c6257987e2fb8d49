use Rattle.std.proofs.Common.{Some, rules}
use Rattle.disk_memory.proofs.Maps.{directory-update}
use Rattle.disk_memory.proofs.files.replace.Goals as goal

pub returns-in-Some : goal.returns-in-Some
returns-in-Some c = λ q. directory-update c.args.path.now c.args.files.now (c.get_mut.follows.lender c.args.bytes) (Some c.args.bytes) ((c.get_mut.follows.holds c.args.bytes).3 (search rules)) q
