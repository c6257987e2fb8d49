use Rattle.std.proofs.Common.{sym, subst}
use Rattle.disk_trait.specs.Change.{Directory}
use Rattle.dict_store_laws.specs.Recovers.{Holds}
use Rattle.dict_store_laws.proofs.Phases.{kept_holds}
use Rattle.dict_store_laws.proofs.Histories.{recovers, leaves_one, leaves_either}
use Rattle.dict_store_laws.proofs.laws.directories_recover.Goals as goal

pub returns-clause-one : goal.returns-clause-one
returns-clause-one g c = λ rows catalog image stands holds. recovers g.M.Dictionary.meaning rows catalog image stands holds

pub returns-clause-kept : goal.returns-clause-kept
returns-clause-kept g c = λ s store work catalog kept stands wanted image it.
    recovers g.M.Dictionary.meaning store.rows catalog image stands (subst (λ (d : Directory). Holds store.rows d image) (sym wanted) (kept_holds s store work kept image it))

pub returns-clause-leaves : goal.returns-clause-leaves
returns-clause-leaves g c = λ before now old new rows catalog stands it. leaves_one g.M.Dictionary.meaning before now old new rows catalog stands it

pub returns-clause-leaves_either : goal.returns-clause-leaves_either
returns-clause-leaves_either g c = λ before now old new rows later catalog next stands stands_next it. leaves_either g.M.Dictionary.meaning before now old new rows later catalog next stands stands_next it
