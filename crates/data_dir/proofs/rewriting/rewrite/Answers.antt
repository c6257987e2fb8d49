use Rattle.data_dir.proofs.Rewritten.{cut_and_written}
use Rattle.data_dir.proofs.rewriting.rewrite.Goals as goal

pub returns-in-Ok-clause-reads : goal.returns-in-Ok-clause-reads
returns-in-Ok-clause-reads g c = cut_and_written c.args.path.now c.args.bytes.now _ _ _ c.in_ok-trim.ensures.reads c.in-Ok.ensures.reads
