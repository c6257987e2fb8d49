use Rattle.std.proofs.Common.{ℕ, List, refl, sym, subst}
use Rattle.dd_catalog.specs.Walks.{fine}
use Rattle.rules_outcome.specs.Choices.{Lists}
use Rattle.dd_engine.specs.declared.history.Answer.TheVariants.{Rows}
use Rattle.dd_engine.specs.Engine.{Settles}
use Rattle.dd_engine.proofs.Settling.{listing_done}
use Rattle.dd_engine.proofs.settle.listed.Goals as goal

pub returns-in-Some : goal.returns-in-Some
returns-in-Some c =
    let room = c.in-Some.room in
    subst (λ (spaces : List ℕ). Settles (fine (Lists c.args.listing)) c.args.state (Rows c.args.listing) (record c.args.state { room = room }) spaces) (sym c.new.ensures)
    (listing_done c.args.listing c.args.state room c.in-Some.ensures)

pub returns-in-None : goal.returns-in-None
returns-in-None c = c.unchanged.ensures (fine (Lists c.args.listing)) tt tt refl refl
