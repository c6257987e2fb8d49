use Rattle.disk_trait.proofs.Acts.{moves, has_moved, may_read}
use Rattle.data_dir.proofs.files.move_file.Goals as goal

pub returns-in-Ok-clause-carries : goal.returns-in-Ok-clause-carries
returns-in-Ok-clause-carries g c = moves _ _ _ _ _ c.args.from.now c.args.to.now c.rename.ensures.acts c.rename.ensures.passes.onward

pub returns-in-Err-clause-carries : goal.returns-in-Err-clause-carries
returns-in-Err-clause-carries g c = moves _ _ _ _ _ c.args.from.now c.args.to.now c.rename.ensures.acts c.rename.ensures.passes.onward

pub returns-in-Ok-clause-images : goal.returns-in-Ok-clause-images
returns-in-Ok-clause-images g c = λ image it. has_moved _ _ _ _ _ c.in-Ok.ensures.acts.ok image it

pub returns-in-Err-clause-turns : goal.returns-in-Err-clause-turns
returns-in-Err-clause-turns g c = may_read _ _ _ _ _ _ c.in-Err.ensures.acts
