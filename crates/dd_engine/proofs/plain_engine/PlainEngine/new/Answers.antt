use Rattle.std.proofs.Common.{List, Some, sym, subst}
use Rattle.dd_engine.specs.declared.history.Entry.{Entry}
use Rattle.dd_engine.specs.Engine.{IsSound}
use Rattle.dd_engine.proofs.Sound.{begins}
use Rattle.dd_engine.proofs.plain_engine.PlainEngine.new.Goals as goal

pub invariant_of-result : goal.invariant_of-result
invariant_of-result c =
    let state = c.first_state.result in
    let told = c.first_state.ensures in
    subst (λ (l : List Entry). IsSound (Some state) l) (sym c.new.ensures.items) (begins state told.catalog told.session told.next told.room)
