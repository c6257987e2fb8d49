use Rattle.std.proofs.Common.{Option, Err, subst}
use Rattle.std.specs.Option.{option_map}
use Rattle.dd_catalog.specs.Walks.{run}
use Rattle.dd_catalog.specs.declared.stop.Stop.{Stop}
use Rattle.rules_decide.specs.Outcome.{DecidesIf, outcome}
use Rattle.dd_engine.specs.Known.{seen_in}
use Rattle.dd_engine.proofs.Deciding.{decided_whole, refused_whole, turned_more}
use Rattle.dd_engine.proofs.decisions.turn.Goals as goal

pub returns-in-Ok : goal.returns-in-Ok
returns-in-Ok c = decided_whole c.args.catalog.now c.args.part.now (outcome c.args.session.now c.args.statement.now) c.in-Ok.decided c.requires.known c.in-Ok.ensures.exact

pub returns-in-Ok-learn : goal.returns-in-Ok-learn
returns-in-Ok-learn c =
    let check = outcome c.args.session.now c.args.statement.now in
    turned_more c.args.catalog.now c.args.part.now c.learn.new.part check c.in-Err-Need.key c.requires.known
    (subst (λ (stop : Stop). DecidesIf (Err stop) (option_map (run (seen_in c.args.part.now)) check)) c.in-Err-Need.field-0-is c.in-Err-Need.ensures.exact)
    c.in-Ok-learn.ensures.here c.in-Ok-learn.ensures.more c.in-Ok-learn.ensures.known

pub returns-in-Err-Refused : goal.returns-in-Err-Refused
returns-in-Err-Refused c =
    let check = outcome c.args.session.now c.args.statement.now in
    refused_whole c.args.catalog.now c.args.part.now check c.in-Err-Refused.error c.requires.known
    (subst (λ (stop : Stop). DecidesIf (Err stop) (option_map (run (seen_in c.args.part.now)) check)) c.in-Err-Refused.field-0-is c.in-Err-Refused.ensures.exact)
