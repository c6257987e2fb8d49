use Rattle.std.proofs.Common.{sym, ◌∙◌}
use Rattle.dict_store_laws.proofs.Phases.{replay_leaves, replay_kept}
use Rattle.dict_store_laws.proofs.Steady.{steady}
use Rattle.dict_store.proofs.Calls.{names_none, replayed_own}
use Rattle.dict_store.proofs.Readies.{ready_does}
use Rattle.dict_store.proofs.store.Store.replay.Goals as goal

pub returns-then-names_system-clause-kept : goal.returns-then-names_system-clause-kept
returns-then-names_system-clause-kept g c = λ work finished kept may place.
    absurd (replayed_own _ c.args.self.now.rows work c.args.item.now c.args.bytes.now kept may (sym c.names_system.ensures ∙ c.if-names_system.true))

pub invariant_of-self : goal.invariant_of-self
invariant_of-self g c = record {
  ready = ready_does c.args.self.now.halted (g.D.Disk.story c.args.self.now.disk) (g.D.Disk.story c.replay.new.disk) c.args.self.now.rows.journal c.args.item.now c.args.bytes.now c.args.self.now.place
      (names_none c.args.item.now (sym c.names_system.ensures ∙ c.if-names_system.false)) c.in-Ok.ensures.reads c.args.self.now.ready;
  place = c.args.self.now.place;
}

pub returns-in-Ok-clause-any_moment : goal.returns-in-Ok-clause-any_moment
returns-in-Ok-clause-any_moment g c = λ work kept may. replay_leaves _ c.args.self.now.rows work kept c.args.item.now may.first _ _ _ (c.replay.ensures.carries work.wanted may.given)

pub returns-in-Ok-clause-kept : goal.returns-in-Ok-clause-kept
returns-in-Ok-clause-kept g c = λ work finished kept may place.
    let sound = (g.met.D.Disk g.world.𝓛 g.world.𝓜 g.world.𝓡 ((λ s x. x), (λ x. x), (λ x. x), λ x. x)).sound c.args.self.now.disk in
    replay_kept _ c.args.self.now.rows work kept c.args.item.now may.first may.finished may.made finished _ place
    (c.in-Ok.ensures.images work.wanted may.given (steady _ _ c.args.self.now.rows work sound kept c.args.item.now c.args.bytes.now may)) (c.in-Ok.ensures.reads work.wanted may.given)

pub returns-in-Err-Fault-clause-any_moment : goal.returns-in-Err-Fault-clause-any_moment
returns-in-Err-Fault-clause-any_moment g c = λ work kept may. replay_leaves _ c.args.self.now.rows work kept c.args.item.now may.first _ _ _ (c.replay.ensures.carries work.wanted may.given)
