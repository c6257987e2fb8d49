use Rattle.post_ddl.proofs.Operations.{write_reads, write_turns, write_carries, write_images}
use Rattle.post_ddl.proofs.replays.write_space.Goals as goal

pub returns-in-Ok-clause-reads : goal.returns-in-Ok-clause-reads
returns-in-Ok-clause-reads g c = λ wanted given. write_reads c.args.item.now wanted _ c.args.bytes.now c.requires c.as_str.ensures.text given _ _ c.in-Ok.ensures.reads

pub returns-in-Ok-clause-turns : goal.returns-in-Ok-clause-turns
returns-in-Ok-clause-turns g c = λ wanted given. write_turns c.args.item.now wanted _ c.args.bytes.now c.requires c.as_str.ensures.text given _ _ c.write_sdi.ensures.turns

pub returns-in-Ok-clause-carries : goal.returns-in-Ok-clause-carries
returns-in-Ok-clause-carries g c = λ wanted given. write_carries c.args.item.now wanted _ c.args.bytes.now c.requires c.as_str.ensures.text given _ _ _ _ c.write_sdi.ensures.carries

pub returns-in-Ok-clause-images : goal.returns-in-Ok-clause-images
returns-in-Ok-clause-images g c = λ wanted given steady image now_it. write_images c.args.item.now wanted _ c.args.bytes.now c.requires c.as_str.ensures.text given _ _ c.in-Ok.ensures.images steady image now_it

pub returns-in-Err-clause-turns : goal.returns-in-Err-clause-turns
returns-in-Err-clause-turns g c = λ wanted given. write_turns c.args.item.now wanted _ c.args.bytes.now c.requires c.as_str.ensures.text given _ _ c.write_sdi.ensures.turns

pub returns-in-Err-clause-carries : goal.returns-in-Err-clause-carries
returns-in-Err-clause-carries g c = λ wanted given. write_carries c.args.item.now wanted _ c.args.bytes.now c.requires c.as_str.ensures.text given _ _ _ _ c.write_sdi.ensures.carries
