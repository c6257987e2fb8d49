use Rattle.sdi_text.proofs.Names.{read_refused}
use Rattle.sdi_text.proofs.found.name_of.Goals as goal

pub returns-in-Err : goal.returns-in-Err
returns-in-Err c = λ is. c.of_name.ensures (read_refused c.args.text.now c.in-Err.fault is c.in-Err.ensures)
