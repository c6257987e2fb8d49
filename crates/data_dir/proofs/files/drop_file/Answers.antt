use Rattle.disk_trait.specs.Change.{removed}
use Rattle.disk_trait.proofs.Acts.{linked_off}
use Rattle.data_dir.proofs.Made.{remove_turns, dropped, drop_images}
use Rattle.data_dir.proofs.files.drop_file.Goals as goal

pub returns-in-Ok-clause-reads : goal.returns-in-Ok-clause-reads
returns-in-Ok-clause-reads g c = dropped c.args.path.now _ _ _ c.in-Ok.ensures.acts.ok

pub returns-in-Ok-clause-turns : goal.returns-in-Ok-clause-turns
returns-in-Ok-clause-turns g c = remove_turns _ _ _ _ c.args.path.now c.remove.ensures.acts

pub returns-in-Err-clause-turns : goal.returns-in-Err-clause-turns
returns-in-Err-clause-turns g c = remove_turns _ _ _ _ c.args.path.now c.remove.ensures.acts

pub returns-in-Ok-clause-carries : goal.returns-in-Ok-clause-carries
returns-in-Ok-clause-carries g c = linked_off _ _ _ _ _ (removed c.args.path.now) tt c.remove.ensures.acts c.remove.ensures.passes.onward

pub returns-in-Err-clause-carries : goal.returns-in-Err-clause-carries
returns-in-Err-clause-carries g c = linked_off _ _ _ _ _ (removed c.args.path.now) tt c.remove.ensures.acts c.remove.ensures.passes.onward

pub returns-in-Ok-clause-images : goal.returns-in-Ok-clause-images
returns-in-Ok-clause-images g c =
    drop_images c.args.path.now _ _ _ _ _ (linked_off _ _ _ _ _ (removed c.args.path.now) tt c.remove.ensures.acts c.remove.ensures.passes.onward) c.in-Ok.ensures.acts.ok
