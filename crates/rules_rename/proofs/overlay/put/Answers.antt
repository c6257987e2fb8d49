use Rattle.std.proofs.Common.{refl, subst, List}
use Rattle.dd_definitions.specs.declared.foreign_keys.ForeignKeyDef.{ForeignKeyDef}
use Rattle.rules_rename.specs.Indexed.{IsReady}
use Rattle.rules_rename.proofs.InOrder.{risen}
use Rattle.rules_rename.proofs.Indexed.{kept_indexed, put_indexed}
use Rattle.rules_rename.proofs.overlay.put.Goals as goal

pub returns-in_err-shift-clause-indexed : goal.returns-in_err-shift-clause-indexed
returns-in_err-shift-clause-indexed c = λ indexed. kept_indexed c.args.tables.now c.entered.new.tables c.args.all.now c.args.all.now refl c.in_err-shift.ensures.kept indexed

pub returns-in_err-insert-clause-indexed : goal.returns-in_err-insert-clause-indexed
returns-in_err-insert-clause-indexed c = λ indexed. kept_indexed c.args.tables.now c.entered.new.tables c.args.all.now c.insert.new.self c.in_err-insert.ensures.err c.in_ok-shift.ensures.kept indexed

pub returns-in_err-insert-clause-ordered : goal.returns-in_err-insert-clause-ordered
returns-in_err-insert-clause-ordered c = λ ordered. risen c.insert.new.self.entries c.in_err-insert.ensures.ordered

pub returns-clause-ordered : goal.returns-clause-ordered
returns-clause-ordered c = λ ordered. risen c.insert.new.self.entries c.in_ok-insert.ensures.ordered

pub returns-clause-indexed : goal.returns-clause-indexed
returns-clause-indexed c = λ indexed.
    put_indexed c.args.tables.now c.entered.new.tables c.leave.new.self c.args.all.now c.insert.new.self c.in_ok-shift.shift c.args.name c.args.left indexed c.in_ok-shift.ensures.kept (subst (λ (keys : List ForeignKeyDef). IsReady c.entered.new.tables c.in_ok-shift.shift c.args.name keys) c.foreign_keys.ensures c.in_ok-shift.ensures.ready) c.leave.ensures c.in_ok-insert.ensures.updates.0
