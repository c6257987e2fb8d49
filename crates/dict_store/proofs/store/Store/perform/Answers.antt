use Rattle.std.proofs.Common.{sym, ◌∙◌}
use Rattle.dict_store_laws.proofs.Phases.{make_leaves, make_keeps, make_made}
use Rattle.dict_store.proofs.Calls.{made_own}
use Rattle.dict_store.proofs.Readies.{ready_off}
use Rattle.dict_store.proofs.store.Store.perform.Goals as goal

pub returns-then-is_system-clause-kept : goal.returns-then-is_system-clause-kept
returns-then-is_system-clause-kept g c = λ work made kept may place. absurd (made_own _ c.args.self.now.rows work c.args.path.now kept may (sym c.is_system.ensures ∙ c.if-is_system.true))

pub invariant_of-self : goal.invariant_of-self
invariant_of-self g c = record {
  ready = ready_off c.args.self.now.halted (g.D.Disk.story c.args.self.now.disk) (g.D.Disk.story c.make.new.disk) c.args.self.now.rows.journal c.args.path.now c.args.self.now.place (sym c.is_system.ensures ∙ c.if-is_system.false) c.make.ensures.turns c.args.self.now.ready;
  place = c.args.self.now.place;
}

pub returns-in-Ok-clause-any_moment : goal.returns-in-Ok-clause-any_moment
returns-in-Ok-clause-any_moment g c = λ work kept may. make_leaves _ c.args.self.now.rows work kept c.args.path.now (sym c.is_system.ensures ∙ c.if-is_system.false) may _ _ _ c.make.ensures.carries

pub returns-in-Ok-clause-stays : goal.returns-in-Ok-clause-stays
returns-in-Ok-clause-stays g c = λ work kept may. make_keeps _ c.args.self.now.rows work kept c.args.path.now (sym c.is_system.ensures ∙ c.if-is_system.false) may _ _ _ c.make.ensures.carries c.make.ensures.turns

pub returns-in-Ok-clause-kept : goal.returns-in-Ok-clause-kept
returns-in-Ok-clause-kept g c = λ work made kept may place.
    make_made _ c.args.self.now.rows work kept c.args.path.now (sym c.is_system.ensures ∙ c.if-is_system.false) may c.args.bytes.now made _ _ _ place c.make.ensures.carries c.make.ensures.turns c.in-Ok.ensures.images

pub returns-in-Err-Fault-clause-any_moment : goal.returns-in-Err-Fault-clause-any_moment
returns-in-Err-Fault-clause-any_moment g c = λ work kept may. make_leaves _ c.args.self.now.rows work kept c.args.path.now (sym c.is_system.ensures ∙ c.if-is_system.false) may _ _ _ c.make.ensures.carries

pub returns-in-Err-Fault-clause-stays : goal.returns-in-Err-Fault-clause-stays
returns-in-Err-Fault-clause-stays g c = λ work kept may. make_keeps _ c.args.self.now.rows work kept c.args.path.now (sym c.is_system.ensures ∙ c.if-is_system.false) may _ _ _ c.make.ensures.carries c.make.ensures.turns
