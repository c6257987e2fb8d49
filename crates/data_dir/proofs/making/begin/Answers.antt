use Rattle.disk_trait.specs.Change.{made}
use Rattle.disk_trait.proofs.Acts.{linked_off}
use Rattle.data_dir.proofs.Made.{create_turns, is_there}
use Rattle.data_dir.proofs.making.begin.Goals as goal

pub returns-in-Ok-clause-there : goal.returns-in-Ok-clause-there
returns-in-Ok-clause-there g c = is_there _ _ _ c.args.path.now c.in-Ok.ensures.acts.ok

pub returns-in-Ok-clause-turns : goal.returns-in-Ok-clause-turns
returns-in-Ok-clause-turns g c = create_turns _ _ _ _ c.args.path.now c.create.ensures.acts

pub returns-in-Err-clause-turns : goal.returns-in-Err-clause-turns
returns-in-Err-clause-turns g c = create_turns _ _ _ _ c.args.path.now c.create.ensures.acts

pub returns-in-Ok-clause-carries : goal.returns-in-Ok-clause-carries
returns-in-Ok-clause-carries g c = linked_off _ _ _ _ _ (made c.args.path.now) tt c.create.ensures.acts c.create.ensures.passes.onward

pub returns-in-Err-clause-carries : goal.returns-in-Err-clause-carries
returns-in-Err-clause-carries g c = linked_off _ _ _ _ _ (made c.args.path.now) tt c.create.ensures.acts c.create.ensures.passes.onward
