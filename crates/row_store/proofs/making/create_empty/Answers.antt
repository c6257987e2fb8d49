use Rattle.disk_trait.specs.Change.{made}
use Rattle.disk_trait.proofs.Acts.{linked_off}
use Rattle.row_store.proofs.Made.{is_created, create_off}
use Rattle.row_store.proofs.making.create_empty.Goals as goal

pub returns-in-Ok-clause-reads : goal.returns-in-Ok-clause-reads
returns-in-Ok-clause-reads g c = is_created _ _ _ c.args.path.now c.requires c.in-Ok.ensures.acts.ok

pub returns-in-Ok-clause-off : goal.returns-in-Ok-clause-off
returns-in-Ok-clause-off g c = create_off _ _ _ _ c.args.path.now c.in-Ok.ensures.acts

pub returns-in-Ok-clause-carries : goal.returns-in-Ok-clause-carries
returns-in-Ok-clause-carries g c = linked_off _ _ _ _ _ (made c.args.path.now) tt c.in-Ok.ensures.acts c.in-Ok.ensures.passes.onward

pub returns-in-Err-clause-off : goal.returns-in-Err-clause-off
returns-in-Err-clause-off g c = create_off _ _ _ _ c.args.path.now c.in-Err.ensures.acts

pub returns-in-Err-clause-carries : goal.returns-in-Err-clause-carries
returns-in-Err-clause-carries g c = linked_off _ _ _ _ _ (made c.args.path.now) tt c.in-Err.ensures.acts c.in-Err.ensures.passes.onward
