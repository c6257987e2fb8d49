use Rattle.std.proofs.Common.{refl}
use Rattle.plain_catalog.proofs.ByName.{rises}
use Rattle.plain_catalog.proofs.Indexed.{kept_indexed, put_indexed}
use Rattle.plain_catalog.specs.Objects.{are_in_order}
use Rattle.std.proofs.Common.{subst, sym}
use Rattle.plain_catalog.proofs.object_map.put.Goals as goal

pub returns-in_err-shift-clause-indexed : goal.returns-in_err-shift-clause-indexed
returns-in_err-shift-clause-indexed c = λ indexed. kept_indexed c.args.tables.now c.entered.new.tables c.args.objects.now c.args.objects.now refl c.in_err-shift.ensures.kept indexed

pub returns-in_err-insert-clause-indexed : goal.returns-in_err-insert-clause-indexed
returns-in_err-insert-clause-indexed c = λ indexed. kept_indexed c.args.tables.now c.entered.new.tables c.args.objects.now c.insert.new.self c.in_err-insert.ensures.err c.in_ok-shift.ensures.kept indexed

pub returns-in_err-insert-clause-ordered : goal.returns-in_err-insert-clause-ordered
returns-in_err-insert-clause-ordered c = λ ordered. rises c.insert.new.self.entries c.in_err-insert.ensures.ordered

pub returns-clause-ordered : goal.returns-clause-ordered
returns-clause-ordered c = λ ordered. rises c.insert.new.self.entries c.in_ok-insert.ensures.ordered

pub returns-clause-indexed : goal.returns-clause-indexed
returns-clause-indexed c = λ indexed.
    put_indexed c.args.tables.now c.entered.new.tables c.leave.new.self c.args.objects.now c.insert.new.self c.in_ok-shift.shift c.args.name c.args.object indexed c.in_ok-shift.ensures.kept c.in_ok-shift.ensures.ready c.leave.ensures c.in_ok-insert.ensures.updates.0
