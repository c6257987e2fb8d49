use Rattle.std.proofs.Common.{OnErr, map, refl, sym, subst}
use Rattle.dd_catalog.specs.Walks.{fine}
use Rattle.rules_outcome.specs.declared.decided.Decided.{Decided}
use Rattle.rules_outcome.specs.declared.decided.Decided.TheVariants.{Same, Rows}
use Rattle.rules_outcome.specs.Decided.{change_of, chosen}
use Rattle.dd_engine.specs.Engine.{Alters, Settles}
use Rattle.dd_engine.proofs.Settling.{lost_anyway}
use Rattle.dd_engine.proofs.settle.settle.Goals as goal

pub returns-in-Same-clause-settles : goal.returns-in-Same-clause-settles
returns-in-Same-clause-settles c =
    subst (λ (d : Decided). Settles (fine (chosen d)) c.args.state c.unchanged.result.answer c.unchanged.result.state c.unchanged.result.spaces) (sym c.in-Same.is)
    (c.unchanged.ensures (fine (chosen Same)) tt tt refl refl)

pub returns-in-Rows-clause-settles : goal.returns-in-Rows-clause-settles
returns-in-Rows-clause-settles c =
    let told = c.listed in
    subst (λ (d : Decided). Settles (fine (chosen d)) c.args.state told.result.answer told.result.state told.result.spaces) (sym c.in-Rows.is) told.ensures

pub returns-in-Edits-clause-lost : goal.returns-in-Edits-clause-lost
returns-in-Edits-clause-lost c =
    let edits = c.in-Edits.edits in
    subst (λ (d : Decided). OnErr c.settle_edits.result (Alters (chosen d))) (sym c.in-Edits.is)
    (lost_anyway c.settle_edits.result (map change_of edits.puts, edits.session, refl))
