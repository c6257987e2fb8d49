use Rattle.std.proofs.Common.{Err, refl, subst}
use Rattle.std.proofs.lemmas.Result.{IfOk-weaker}
use Rattle.dd_catalog.specs.Walks.{fine, refused}
use Rattle.dd_catalog.specs.declared.stop.Stop.{Stop}
use Rattle.rules_outcome.specs.Decided.{chosen}
use Rattle.rules_decide.specs.Outcome.{DecidesIf, outcome, outcome_over}
use Rattle.dd_engine.proofs.Deciding.{decided_found, never_needs, refused_found}
use Rattle.dd_engine.proofs.Settling.{Outcome, lost_still, memory_answers, outcome_there}
use Rattle.dd_engine.proofs.settle.answered.Goals as goal

pub unreachable-requires : goal.unreachable-requires
unreachable-requires c =
    let state = c.args.state in
    never_needs state.catalog (outcome state.session c.args.statement.now) c.in-Err-Need.field-0-0
    (subst (λ (stop : Stop). DecidesIf (Err stop) (outcome_over state.catalog state.session c.args.statement.now)) c.in-Err-Need.field-0-is c.in-Err-Need.ensures)

pub returns-in-Ok-clause-answered : goal.returns-in-Ok-clause-answered
returns-in-Ok-clause-answered c =
    let state = c.args.state in
    let d = c.in-Ok.decided in
    let is = decided_found (outcome_over state.catalog state.session c.args.statement.now) d c.in-Ok.ensures in
    IfOk-weaker c.settle.result _ _ (λ settled settles. record { found = fine (chosen d); is = is; settles = settles }) c.settle.ensures.settles

pub returns-in-Err-Refused-clause-answered : goal.returns-in-Err-Refused-clause-answered
returns-in-Err-Refused-clause-answered c =
    let state = c.args.state in
    let error = c.in-Err-Refused.error in
    let is = refused_found (outcome_over state.catalog state.session c.args.statement.now) error
    (subst (λ (stop : Stop). DecidesIf (Err stop) (outcome_over state.catalog state.session c.args.statement.now)) c.in-Err-Refused.field-0-is c.in-Err-Refused.ensures) in
    record { found = refused error; is = is; settles = c.unchanged.ensures (refused error) refl tt refl refl }

pub returns-in-Err-Memory-clause-answered : goal.returns-in-Err-Memory-clause-answered
returns-in-Err-Memory-clause-answered c =
    let there : Outcome c.args.state c.args.statement.now = outcome_there c.args.state c.args.statement.now c.requires in
    record { found = there.found; is = there.is; settles = c.unchanged-in-Err-Memory.ensures there.found (memory_answers there.found there.settled) tt refl refl }

pub returns-in-Ok-clause-lost : goal.returns-in-Ok-clause-lost
returns-in-Ok-clause-lost c =
    let state = c.args.state in
    let d = c.in-Ok.decided in
    let is = decided_found (outcome_over state.catalog state.session c.args.statement.now) d c.in-Ok.ensures in
    lost_still c.settle.result (λ alters. (chosen d, is, alters)) c.settle.ensures.lost
