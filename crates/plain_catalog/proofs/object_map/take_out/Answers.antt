use Rattle.plain_catalog.proofs.ByName.{rises}
use Rattle.plain_catalog.proofs.Indexed.{gone_indexed}
use Rattle.plain_catalog.proofs.object_map.take_out.Goals as goal

pub returns-in-None-clause-ordered : goal.returns-in-None-clause-ordered
returns-in-None-clause-ordered c = rises c.remove.new.self.entries c.in-None.ensures.ordered

pub returns-in-Some-clause-ordered : goal.returns-in-Some-clause-ordered
returns-in-Some-clause-ordered c = rises c.remove.new.self.entries c.in-Some.ensures.ordered

pub returns-in-None-clause-indexed : goal.returns-in-None-clause-indexed
returns-in-None-clause-indexed c = λ indexed. gone_indexed c.args.tables.now c.args.tables.now c.args.objects.now c.remove.new.self c.args.name.now indexed (record { keeps = λ key other apart is. is }) c.in-None.ensures.updates.0

pub returns-in-Some-clause-indexed : goal.returns-in-Some-clause-indexed
returns-in-Some-clause-indexed c = λ indexed. gone_indexed c.args.tables.now c.leave_all.new.tables c.args.objects.now c.remove.new.self c.args.name.now indexed c.leave_all.ensures c.in-Some.ensures.updates.0
