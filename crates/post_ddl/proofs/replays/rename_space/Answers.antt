use Rattle.post_ddl.proofs.Operations.{rename_reads, rename_turns, rename_carries, rename_images}
use Rattle.post_ddl.proofs.replays.rename_space.Goals as goal

pub returns-in-Ok-clause-reads : goal.returns-in-Ok-clause-reads
returns-in-Ok-clause-reads g c = λ wanted. rename_reads c.args.item.now wanted _ _ c.requires c.as_str.ensures.text c.as_str-2.ensures.text _ _ c.in-Ok.ensures.reads

pub returns-in-Ok-clause-turns : goal.returns-in-Ok-clause-turns
returns-in-Ok-clause-turns g c = λ wanted. rename_turns c.args.item.now wanted _ _ c.requires c.as_str.ensures.text c.as_str-2.ensures.text _ _ c.move_file.ensures.turns

pub returns-in-Ok-clause-carries : goal.returns-in-Ok-clause-carries
returns-in-Ok-clause-carries g c = λ wanted. rename_carries c.args.item.now wanted _ _ c.requires c.as_str.ensures.text c.as_str-2.ensures.text _ _ _ _ c.move_file.ensures.carries

pub returns-in-Ok-clause-images : goal.returns-in-Ok-clause-images
returns-in-Ok-clause-images g c = λ wanted image now_it. rename_images c.args.item.now wanted _ _ c.requires c.as_str.ensures.text c.as_str-2.ensures.text _ _ c.in-Ok.ensures.images image now_it

pub returns-in-Err-clause-turns : goal.returns-in-Err-clause-turns
returns-in-Err-clause-turns g c = λ wanted. rename_turns c.args.item.now wanted _ _ c.requires c.as_str.ensures.text c.as_str-2.ensures.text _ _ c.move_file.ensures.turns

pub returns-in-Err-clause-carries : goal.returns-in-Err-clause-carries
returns-in-Err-clause-carries g c = λ wanted. rename_carries c.args.item.now wanted _ _ c.requires c.as_str.ensures.text c.as_str-2.ensures.text _ _ _ _ c.move_file.ensures.carries
