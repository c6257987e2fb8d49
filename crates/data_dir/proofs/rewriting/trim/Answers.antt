use Rattle.data_dir.proofs.Rewritten.{cut_turns, cut_carries}
use Rattle.data_dir.proofs.rewriting.trim.Goals as goal

pub returns-in-Ok-clause-turns : goal.returns-in-Ok-clause-turns
returns-in-Ok-clause-turns g c = cut_turns c.args.path.now _ _ _ _ c.args.size c.cut.ensures.acts

pub returns-in-Err-clause-turns : goal.returns-in-Err-clause-turns
returns-in-Err-clause-turns g c = cut_turns c.args.path.now _ _ _ _ c.args.size c.cut.ensures.acts

pub returns-in-Ok-clause-carries : goal.returns-in-Ok-clause-carries
returns-in-Ok-clause-carries g c = cut_carries c.args.path.now _ _ _ _ _ c.args.size c.cut.ensures.acts c.cut.ensures.passes.onward

pub returns-in-Err-clause-carries : goal.returns-in-Err-clause-carries
returns-in-Err-clause-carries g c = cut_carries c.args.path.now _ _ _ _ _ c.args.size c.cut.ensures.acts c.cut.ensures.passes.onward
