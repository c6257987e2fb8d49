use Rattle.std.proofs.Common.{◌≡◌, refl, sym, arith}
use Rattle.dd_catalog.specs.Walks.{fine}
use Rattle.rules_outcome.specs.Decided.{choice_of}
use Rattle.dd_engine.proofs.settle.settle_edits.Goals as goal

pub returns-then-next : goal.returns-then-next
returns-then-next c =
    let full : c.args.state.next ≡ 4294967295 = omega (arith, c.if-next.true) in
    c.unchanged.ensures (fine (choice_of c.args.edits)) (sym c.if-numbered.ensures, full) refl refl refl
