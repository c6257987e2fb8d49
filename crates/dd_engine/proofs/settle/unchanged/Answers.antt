use Rattle.std.proofs.Common.{sym, subst}
use Rattle.std.specs.Prelude.{ℕ, List}
use Rattle.dd_engine.specs.Engine.{Settles}
use Rattle.dd_engine.proofs.Settling.{nothing_done}
use Rattle.dd_engine.proofs.settle.unchanged.Goals as goal

pub returns : goal.returns
returns c found answers out size same =
    subst (λ (spaces : List ℕ). Settles found c.args.state c.args.answer c.args.state spaces) (sym c.new.ensures) (nothing_done found c.args.state c.args.answer answers out size same)
