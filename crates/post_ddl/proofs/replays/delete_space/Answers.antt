use Rattle.post_ddl.proofs.Operations.{delete_reads, delete_turns, delete_carries, delete_images}
use Rattle.post_ddl.proofs.replays.delete_space.Goals as goal

pub returns-in-Ok-clause-reads : goal.returns-in-Ok-clause-reads
returns-in-Ok-clause-reads g c = λ wanted. delete_reads c.args.item.now wanted _ c.requires c.as_str.ensures.text _ _ c.in-Ok.ensures.reads

pub returns-in-Ok-clause-turns : goal.returns-in-Ok-clause-turns
returns-in-Ok-clause-turns g c = λ wanted. delete_turns c.args.item.now wanted _ c.requires c.as_str.ensures.text _ _ c.drop_file.ensures.turns

pub returns-in-Ok-clause-carries : goal.returns-in-Ok-clause-carries
returns-in-Ok-clause-carries g c = λ wanted. delete_carries c.args.item.now wanted _ c.requires c.as_str.ensures.text _ _ _ _ c.drop_file.ensures.carries

pub returns-in-Ok-clause-images : goal.returns-in-Ok-clause-images
returns-in-Ok-clause-images g c = λ wanted image now_it. delete_images c.args.item.now wanted _ c.requires c.as_str.ensures.text _ _ c.in-Ok.ensures.images image now_it

pub returns-in-Err-clause-turns : goal.returns-in-Err-clause-turns
returns-in-Err-clause-turns g c = λ wanted. delete_turns c.args.item.now wanted _ c.requires c.as_str.ensures.text _ _ c.drop_file.ensures.turns

pub returns-in-Err-clause-carries : goal.returns-in-Err-clause-carries
returns-in-Err-clause-carries g c = λ wanted. delete_carries c.args.item.now wanted _ c.requires c.as_str.ensures.text _ _ _ _ c.drop_file.ensures.carries
